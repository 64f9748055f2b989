use Rattle.std.proofs.Common.{◌∙◌, ℕ, ap, sym, Some}
use Rattle.query_tree.specs.Queries.{query_view}
use Rattle.check_meaning.specs.Place.{group_key}
use Rattle.query_check.proofs.Placing.{key_here, key_later, key_room}
use Rattle.query_check.proofs.places.key_place.Goals as goal

pub having_place-requires-clause-at : goal.having_place-requires-clause-at
having_place-requires-clause-at c = key_room (query_view c.args.query.now) c.args.at c.len-count.result c.len-count.ensures c.if-at-count.false c.requires.at

pub returns-then-at-count : goal.returns-then-at-count
returns-then-at-count c =
    key_here (query_view c.args.query.now) c.args.at c.item.result.now c.item.ensures ∙ ap (λ (k : ℕ). Some (group_key k, c.item.result.now)) (sym c.number.ensures)

pub returns-else-at-count : goal.returns-else-at-count
returns-else-at-count c = key_later (query_view c.args.query.now) c.args.at c.len-count.result c.len-count.ensures c.if-at-count.false ∙ c.having_place.ensures
