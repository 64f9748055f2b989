use Rattle.std.proofs.Common.{◌≡◌, ◌<◌, ◌≤◌, ℕ}
use Rattle.lane_base.specs.Shown.{IsLegal, value_under}
use Rattle.lane_base.specs.Shown as to
use Rattle.lane_base.specs.Registers.{shown}
use Rattle.lane_field.specs.CellsOf.{cell_within, denoted}
use Rattle.lane_field.proofs.load.load16.Given as goal

abbrev pub invariant-loop-i : goal.invariant-loop-i
invariant-loop-i l = record {
  value : (k : ℕ) → k < l.i → value_under l.table (shown l.lanes k) ≡ denoted l.table (cell_within l.m.0 l.c k);
  legal : (k : ℕ) → k < l.i → IsLegal l.table (shown l.lanes k);
  left : (k : ℕ) → l.i ≤ k → k < 16 → shown l.lanes k ≡ to.Missing;
}
