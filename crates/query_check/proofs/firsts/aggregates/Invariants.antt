use Rattle.std.proofs.Common.{◌≡◌, drop, []}
use Rattle.query_tree.specs.Queries.{query_view}
use Rattle.check_meaning.specs.Places.{places}
use Rattle.query_walk.proofs.Walking.{gathered}
use Rattle.query_check.proofs.AllPlaces.{all_parts}
use Rattle.query_check.proofs.firsts.aggregates.Given as goal

abbrev pub invariant-loop-at : goal.invariant-loop-at
invariant-loop-at l =
    let ps = places (query_view l.query) in
    gathered [] (all_parts ps) ≡ gathered l.found (all_parts (drop l.at ps))
