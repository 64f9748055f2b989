use Rattle.std.proofs.Common.{take}
use Rattle.eval_meaning.specs.Logic.{coalesce}
use Rattle.plan_lower.specs.Emitting.{AppliesAll}
use Rattle.plan_lower.proofs.functions.put_first.Given as goal

abbrev pub invariant-loop-at : goal.invariant-loop-at
invariant-loop-at l = AppliesAll l.fn.builder l.builder coalesce l.mask (take l.at l.args) l.first
