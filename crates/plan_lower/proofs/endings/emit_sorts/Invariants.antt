use Rattle.std.proofs.Common.{take}
use Rattle.program_meaning.specs.Simulation.{order_exs}
use Rattle.plan_lower.specs.Emitting.{EmitsAll}
use Rattle.plan_lower.proofs.endings.emit_sorts.Given as goal

abbrev pub invariant-loop-at : goal.invariant-loop-at
invariant-loop-at l = EmitsAll l.fn.builder l.builder (take l.at (order_exs l.checked)) l.mask l.registers
