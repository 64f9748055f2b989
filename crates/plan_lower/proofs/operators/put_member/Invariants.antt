use Rattle.std.proofs.Common.{take}
use Rattle.eval_meaning.specs.Comparisons.{member_of}
use Rattle.plan_lower.specs.Emitting.{AppliesAmong}
use Rattle.plan_lower.proofs.operators.put_member.Given as goal

abbrev pub invariant-loop-at : goal.invariant-loop-at
invariant-loop-at l = AppliesAmong l.fn.builder l.builder member_of l.mask l.of (take l.at l.members) l.found
