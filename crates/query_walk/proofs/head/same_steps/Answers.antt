use Rattle.std.proofs.Common.{sym}
use Rattle.query_tree.specs.View.{step_view}
use Rattle.query_walk.proofs.Listed.{mapped_differ, mapped_more}
use Rattle.query_walk.proofs.head.same_steps.Goals as goal

pub returns-then-not-same_step : goal.returns-then-not-same_step
returns-then-not-same_step c =
    let hx = rw c.in-Some.is at c.get.ensures in
    let hy = rw c.in-Some-get.is at c.get-in-loop-at.ensures in
    mapped_differ step_view c.args.a.now c.args.b.now c.loop-at.at _ _ (sym hx) (sym hy) c.same_step.result c.same_step.ensures c.if-not-same_step.true

pub loop-at-preserved : goal.loop-at-preserved
loop-at-preserved c =
    let hx = rw c.in-Some.is at c.get.ensures in
    let hy = rw c.in-Some-get.is at c.get-in-loop-at.ensures in
    mapped_more step_view c.args.a.now c.args.b.now c.loop-at.at _ _ (sym hx) (sym hy) c.same_step.result c.same_step.ensures c.if-not-same_step.false c.loop-at.invariant
