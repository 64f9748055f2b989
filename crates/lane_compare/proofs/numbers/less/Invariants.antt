use Rattle.std.specs.Ordering.{int_cmp, is_lt}
use Rattle.lane_base.specs.Registers.{number_at}
use Rattle.lane_compare.proofs.Marks.{Marks}
use Rattle.lane_compare.proofs.numbers.less.Given as goal

abbrev pub invariant-loop-i : goal.invariant-loop-i
invariant-loop-i l = Marks l.mask l.i (λ k. is_lt (int_cmp (number_at l.a.lanes k) (number_at l.b.lanes k)))
