use Rattle.std.proofs.Common.{◌∙◌, ◌+◌, sym, ap, drop, arith}
use Rattle.query_tree.specs.Queries.{query_view}
use Rattle.check_meaning.specs.Places.{places}
use Rattle.query_check.specs.Faults.{place_view}
use Rattle.query_walk.proofs.Walking.{gathered}
use Rattle.query_check.proofs.AllPlaces.{all_parts, gathered_place, gathered_done, aggregates_are}
use Rattle.query_check.proofs.firsts.aggregates.Goals as goal

pub loop-at-preserved : goal.loop-at-preserved
loop-at-preserved c =
    let ps = places (query_view c.args.query.now) in
    c.loop-at.invariant ∙ gathered_place c.loop-at.found ps c.loop-at.at (place_view c.place_at.result.0) c.place_at.result.1.now c.place_at.ensures ∙ ap (λ f. gathered f (all_parts (drop (c.loop-at.at + 1) ps))) (sym c.in_ok-gather.ensures)

pub returns : goal.returns
returns c =
    let ps = places (query_view c.args.query.now) in
    sym (aggregates_are (query_view c.args.query.now) ∙ c.loop-at.invariant ∙ gathered_done c.loop-at.found ps c.loop-at.at (omega (arith, c.loop-at-test.false, c.place_count-at-end.ensures)))
