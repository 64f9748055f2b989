use Rattle.std.proofs.Common.{◌∙◌, arith, ap, sym, ℕ, Some}
use Rattle.tree_meaning.specs.Tree.{Ex}
use Rattle.query_tree.specs.Parts.{key_view}
use Rattle.query_tree.specs.Queries.{query_view, outs_view}
use Rattle.check_meaning.specs.Places.{order_ex}
use Rattle.check_meaning.specs.Place.{order_key}
use Rattle.query_check.proofs.Placing.{order_room, order_at}
use Rattle.query_check.proofs.places.order_place.Goals as goal

pub order_key-requires : goal.order_key-requires
order_key-requires c = order_room (query_view c.args.query.now) c.args.at c.requires.at

pub number-requires : goal.number-requires
number-requires c = omega (arith, order_room (query_view c.args.query.now) c.args.at c.requires.at, c.requires.within.order)

pub returns : goal.returns
returns c =
    let found = order_at (query_view c.args.query.now) c.args.at (key_view c.order_key.result.now) c.order_key.ensures in
    found ∙ ap (λ (k : ℕ). Some (order_key k, order_ex (outs_view c.args.query.now.outputs) c.order_key.result.now.expr)) (sym c.number.ensures) ∙ ap (λ (e : Ex). Some (order_key c.number.result, e)) (sym c.order_ex.ensures)
