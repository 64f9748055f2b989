use Rattle.std.proofs.Common.{◌∙◌, sym, arith}
use Rattle.query_tree.specs.Queries.{query_view}
use Rattle.query_check.specs.Faults.{place_view}
use Rattle.query_check.specs.Placed.{test_of}
use Rattle.query_check.proofs.AllPlaces.{place_here, place_next, place_end}
use Rattle.query_check.proofs.firsts.first_place.Goals as goal

pub returns-then-is_so : goal.returns-then-is_so
returns-then-is_so c = place_here (test_of c.args.rule c.args.query.now.keys) (query_view c.args.query.now) c.loop-at.at (place_view c.place_at-place.result.0) c.place_at-place.result.1.now c.place_at-place.ensures c.loop-at.invariant (sym c.is_so.ensures ∙ c.if-is_so.true)

pub loop-at-preserved : goal.loop-at-preserved
loop-at-preserved c = place_next (test_of c.args.rule c.args.query.now.keys) (query_view c.args.query.now) c.loop-at.at (place_view c.place_at-place.result.0) c.place_at-place.result.1.now c.place_at-place.ensures c.loop-at.invariant (sym c.is_so.ensures ∙ c.if-is_so.false)

pub returns : goal.returns
returns c = place_end (test_of c.args.rule c.args.query.now.keys) (query_view c.args.query.now) c.loop-at.at (omega (arith, c.loop-at-test.false, c.place_count-at-end.ensures)) c.loop-at.invariant
