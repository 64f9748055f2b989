use Rattle.std.proofs.Common.{◌∙◌, ℕ, ap, sym, Some}
use Rattle.query_tree.specs.Queries.{query_view}
use Rattle.check_meaning.specs.Place.{output}
use Rattle.query_check.proofs.Placing.{output_here, output_later, output_room}
use Rattle.query_check.proofs.places.place_at.Goals as goal

pub where_place-requires-clause-at : goal.where_place-requires-clause-at
where_place-requires-clause-at c = output_room (query_view c.args.query.now) c.args.at c.output_count-count.result c.output_count-count.ensures c.if-at-count.false c.requires.at

pub returns-then-at-count : goal.returns-then-at-count
returns-then-at-count c =
    output_here (query_view c.args.query.now) c.args.at c.some_output.result.now c.some_output.ensures ∙ ap (λ (k : ℕ). Some (output k, c.some_output.result.now)) (sym c.number.ensures)

pub returns-else-at-count : goal.returns-else-at-count
returns-else-at-count c = output_later (query_view c.args.query.now) c.args.at c.output_count-count.result c.output_count-count.ensures c.if-at-count.false ∙ c.where_place.ensures
