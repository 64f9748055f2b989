use Rattle.std.proofs.Common.{◌≡◌, ℕ, ◌<◌, cond, length}
use Rattle.lane_base.specs.Bits.{has}
use Rattle.lane_base.specs.Registers.{number_at}
use Rattle.lane_base.proofs.merge.pick_nums.Given as goal

abbrev pub invariant-loop-i : goal.invariant-loop-i
invariant-loop-i l = record {
  long : length l.lanes ≡ 16;
  picked : (k : ℕ) → k < l.i → number_at l.lanes k ≡ cond (has l.pick.0 k) (number_at l.a.lanes k) (number_at l.b.lanes k);
}
