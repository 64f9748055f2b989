use Rattle.std.proofs.Common.{◌<◌, ℕ}
use Rattle.std.specs.Prelude.{IfSome}
use Rattle.lane_field.specs.CellsOf.{cell_in, IsCellOf}
use Rattle.lane_tests.proofs.field_tests.lanes_of.Given as goal

abbrev pub invariant-loop-i : goal.invariant-loop-i
invariant-loop-i l = (k : ℕ) → k < 16 → IfSome (cell_in l.cells k) (IsCellOf l.table)
