use Rattle.std.proofs.Common.{◌≡◌, ◌<◌, ◌≤◌, ℕ, List}
use Rattle.tree_meaning.specs.Tree.{name}
use Rattle.eval_meaning.specs.Paths.{step_of}
use Rattle.lane_base.specs.Bits.{has}
use Rattle.lane_base.specs.Shown.{IsLegal}
use Rattle.lane_base.specs.Shown as to
use Rattle.lane_base.specs.Registers.{shown, value_at, under}
use Rattle.lane_field.specs.Steps.{IsNamed}
use Rattle.lane_field.proofs.field.named16.Given as goal

abbrev pub invariant-loop-i : goal.invariant-loop-i
invariant-loop-i l = record {
  value : (n : List ℕ) → IsNamed l.label n l.table → (k : ℕ) → k < l.i → value_at l.table l.lanes k ≡ under (has l.m.0 k) (step_of (name n) (value_at l.table l.a k));
  legal : (k : ℕ) → k < l.i → IsLegal l.table (shown l.lanes k);
  left : (k : ℕ) → l.i ≤ k → k < 16 → shown l.lanes k ≡ to.Missing;
}
