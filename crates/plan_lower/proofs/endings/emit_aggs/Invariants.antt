use Rattle.std.proofs.Common.{take}
use Rattle.check_meaning.specs.Aggregates.{aggregates}
use Rattle.plan_lower.specs.Ends.{EmitsAggs}
use Rattle.plan_lower.proofs.endings.emit_aggs.Given as goal

abbrev pub invariant-loop-at : goal.invariant-loop-at
invariant-loop-at l = EmitsAggs l.fn.builder l.builder (take l.at (aggregates l.checked)) l.mask l.aggs
