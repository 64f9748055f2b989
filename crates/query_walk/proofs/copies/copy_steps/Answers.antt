use Rattle.std.proofs.Common.{sym}
use Rattle.query_walk.proofs.Smaller.{taken_more}
use Rattle.query_walk.proofs.copies.copy_steps.Goals as goal

pub loop-at-preserved : goal.loop-at-preserved
loop-at-preserved c =
    let found = rw c.in-Some.is at c.get.ensures in
    taken_more c.loop-at.all c.push.new.self c.args.steps.now c.loop-at.at _ _ (sym found) c.in_ok-copy_step.ensures c.in_ok-push.ensures.ok c.loop-at.invariant
