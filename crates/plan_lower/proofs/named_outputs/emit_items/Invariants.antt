use Rattle.std.proofs.Common.{◌≡◌, take}
use Rattle.plan_lower.specs.Emitting.{EmitsAll}
use Rattle.plan_lower.specs.Ends.{exs_of, names_of, registers_of}
use Rattle.plan_lower.proofs.named_outputs.emit_items.Given as goal

abbrev pub invariant-loop-at : goal.invariant-loop-at
invariant-loop-at l = (names_of l.outs ≡ take l.at l.names) × EmitsAll l.fn.builder l.builder (exs_of (take l.at l.items)) l.mask (registers_of l.outs)
