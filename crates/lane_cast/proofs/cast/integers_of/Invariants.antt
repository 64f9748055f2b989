use Rattle.std.proofs.Common.{◌≡◌, length, cond}
use Rattle.value_meaning.specs.Val.{missing}
use Rattle.block_meaning.specs.Tables.{Table}
use Rattle.eval_meaning.specs.Casts.{to_integer}
use Rattle.lane_base.specs.Bits.{has}
use Rattle.lane_base.specs.Registers.{value_at, AreLegalIn}
use Rattle.lane_cast.proofs.Shows.{Shows}
use Rattle.lane_cast.proofs.cast.integers_of.Given as goal

abbrev pub invariant-loop-i : goal.invariant-loop-i
invariant-loop-i l = record {
  long : length l.nums ≡ 16;
  shows : (table : Table) → AreLegalIn table l.m.0 l.a → Shows l.ok l.nums l.i (λ k. cond (has l.m.0 k) (to_integer (value_at table l.a k)) missing);
}
