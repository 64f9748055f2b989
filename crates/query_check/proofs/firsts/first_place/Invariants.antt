use Rattle.std.proofs.Common.{◌≡◌, drop}
use Rattle.std.specs.Prelude.{find}
use Rattle.query_tree.specs.Queries.{query_view}
use Rattle.check_meaning.specs.Places.{places}
use Rattle.query_check.specs.Placed.{test_of}
use Rattle.query_check.proofs.firsts.first_place.Given as goal

abbrev pub invariant-loop-at : goal.invariant-loop-at
invariant-loop-at l =
    let ps = places (query_view l.query) in
    let p = test_of l.rule l.query.keys in find p ps ≡ find p (drop l.at ps)
