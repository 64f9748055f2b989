use Rattle.std.proofs.Common.{◌<◌, ℕ, List}
use Rattle.tree_meaning.specs.Tree.{name}
use Rattle.lane_field.specs.CellsOf.{cell_in}
use Rattle.lane_field.specs.Steps.{StepAt, IsNamed}
use Rattle.lane_field.proofs.find.fields_at.Given as goal

abbrev pub invariant-loop-i : goal.invariant-loop-i
invariant-loop-i l = (n : List ℕ) (k : ℕ) → k < l.i → StepAt (name n) (IsNamed l.label n) l.m.0 l.a k (cell_in l.cells k)
