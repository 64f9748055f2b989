use Rattle.std.proofs.Common.{arith}
use Rattle.query_tree.specs.Queries.{query_view}
use Rattle.check_meaning.specs.Place.{where_test, having}
use Rattle.query_check.proofs.Placing.{length_places}
use Rattle.query_check.proofs.places.place_count.Goals as goal

pub returns : goal.returns
returns c =
    let filter = c.count_of.ensures.count where_test in
    let after = c.count_of-2.ensures.count having in
    omega (arith, length_places (query_view c.args.query.now), filter, after, c.output_count-outputs.ensures, c.len-keys.ensures, c.len-order.ensures)
