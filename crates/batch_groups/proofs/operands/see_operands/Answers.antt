use Rattle.std.proofs.Common.{◌++◌, ◌∷◌, [], ◌+◌, List, map, take, length, sym, ap, subst, ◌∙◌, arith}
use Rattle.std.proofs.lemmas.List.{length-map, take_all}
use Rattle.lane_ssa.specs.EndParts.{agg_end_view}
use Rattle.lane_ssa.specs.Frames.{state_at}
use Rattle.hash_agg.specs.Items.{ShowsAll}
use Rattle.batch_groups.specs.Keyed.{operand_at}
use Rattle.batch_groups.proofs.Taking.{shows_more, taken}
use Rattle.batch_groups.proofs.operands.see_operands.Goals as goal

pub loop-at-preserved : goal.loop-at-preserved
loop-at-preserved c table legal =
    let f = operand_at (state_at table c.args.frame.now c.args.lane) in
    let agg = agg_end_view c.in-Some.agg in
    let more = shows_more c.loop-at.shown.items (take c.loop-at.at (map f c.args.aggs.now)) c.see_operand.result (f agg) (c.loop-at.invariant table legal) (c.see_operand.ensures table legal) in
    subst (λ l. ShowsAll l (take (c.loop-at.at + 1) (map f c.args.aggs.now))) (sym c.in_ok-push.ensures.items)
    (subst (ShowsAll (c.loop-at.shown.items ++ c.see_operand.result ∷ [])) (taken f c.args.aggs.now c.loop-at.at agg c.in-Some.ensures) more)

pub returns : goal.returns
returns c table legal =
    let f = operand_at (state_at table c.args.frame.now c.args.lane) in
    let l = length-map c.args.aggs.now f in
    subst (ShowsAll c.loop-at.shown.items) (take_all c.loop-at.at (map f c.args.aggs.now) (omega arith)) (c.loop-at.invariant table legal)
