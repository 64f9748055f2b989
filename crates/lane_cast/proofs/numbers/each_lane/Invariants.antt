use Rattle.std.proofs.Common.{◌≡◌, length}
use Rattle.eval_meaning.specs.Numbers as spec
use Rattle.lane_base.specs.Registers.{number_at}
use Rattle.lane_cast.proofs.Shows.{Shows}
use Rattle.lane_cast.proofs.numbers.each_lane.Given as goal

abbrev pub invariant-loop-i : goal.invariant-loop-i
invariant-loop-i l = record {
  long : length l.nums ≡ 16;
  shows : Shows l.ok l.nums l.i (λ k. spec.computed l.op (number_at l.a.lanes k) (number_at l.b.lanes k));
}
