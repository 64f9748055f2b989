use Rattle.std.proofs.Common.{◌<◌, ℕ}
use Rattle.tree_meaning.specs.Tree as tree
use Rattle.lane_field.specs.CellsOf.{cell_in}
use Rattle.lane_field.specs.Steps.{StepAt, Any}
use Rattle.lane_field.proofs.item.item16.Given as goal

abbrev pub invariant-loop-i : goal.invariant-loop-i
invariant-loop-i l = (k : ℕ) → k < l.i → StepAt (tree.at l.at) Any l.m.0 l.a k (cell_in l.cells k)
