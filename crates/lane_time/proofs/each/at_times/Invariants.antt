use Rattle.std.proofs.Common.{◌≡◌, ℕ, ◌<◌, length}
use Rattle.time_meaning.specs.Moments.{IsTime}
use Rattle.lane_base.specs.Registers.{number_at}
use Rattle.lane_time.proofs.each.at_times.Given as goal

abbrev pub invariant-loop-i : goal.invariant-loop-i
invariant-loop-i g l = record {
  long : length l.lanes ≡ 16;
  given : (k : ℕ) → k < l.i → IsTime (number_at l.nums.lanes k) → goal.F-post g l.f (number_at l.nums.lanes k) (number_at l.lanes k);
}
