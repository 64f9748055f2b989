use Rattle.std.proofs.Common.{◌≡◌, length, cond}
use Rattle.value_meaning.specs.Val.{missing}
use Rattle.eval_meaning.specs.Numbers as spec
use Rattle.lane_base.specs.Bits.{has}
use Rattle.lane_base.specs.Registers.{number_at}
use Rattle.lane_cast.proofs.Shows.{Shows}
use Rattle.lane_cast.proofs.numbers.each_lane_of.Given as goal

abbrev pub invariant-loop-i : goal.invariant-loop-i
invariant-loop-i l = record {
  long : length l.nums ≡ 16;
  shows : Shows l.ok l.nums l.i (λ k. cond (has l.m.0 k) (spec.computed l.op (number_at l.a.lanes k) (number_at l.b.lanes k)) missing);
}
