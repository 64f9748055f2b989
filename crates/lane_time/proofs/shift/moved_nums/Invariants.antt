use Rattle.std.proofs.Common.{◌≡◌, ℕ, length, pos}
use Rattle.std.specs.Prelude.{◌&&◌, nat_lt}
use Rattle.time_meaning.specs.Moments.{is_time}
use Rattle.lane_base.specs.Bits.{has}
use Rattle.lane_time.specs.Moving.{moved_at, IsMoved}
use Rattle.lane_base.proofs.Filled.{Filled}
use Rattle.lane_time.proofs.shift.moved_nums.Given as goal

abbrev pub invariant-loop-i : goal.invariant-loop-i
invariant-loop-i l = record {
  long : length l.lanes ≡ 16;
  within : (k : ℕ) → has l.within.0 k ≡ (nat_lt k l.i && is_time (moved_at l.length l.counts.lanes l.times.lanes k));
  moved : Filled (IsMoved l.length l.counts.lanes l.times.lanes) (pos 0) l.lanes l.i;
}
