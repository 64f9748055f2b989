use Rattle.std.proofs.Common.{arith}
use Rattle.group_answers.proofs.EachFlag.{next_flag, all_flags}
use Rattle.group_answers.proofs.flags.flags_of.Goals as goal

pub loop-at-preserved : goal.loop-at-preserved
loop-at-preserved c =
    next_flag c.args.order.now c.loop-at.at _ c.in-Some.ensures c.loop-at.flags.items c.push.new.self.items c.in_ok-push.ensures.items c.loop-at.invariant

pub returns : goal.returns
returns c = all_flags c.args.order.now c.loop-at.at (omega (arith, c.loop-at-test.false, c.len-at-end.ensures)) c.loop-at.flags.items c.loop-at.invariant
