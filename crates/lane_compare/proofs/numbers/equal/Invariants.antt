use Rattle.std.specs.Ordering.{int_cmp, is_eq}
use Rattle.lane_base.specs.Registers.{number_at}
use Rattle.lane_compare.proofs.Marks.{Marks}
use Rattle.lane_compare.proofs.numbers.equal.Given as goal

abbrev pub invariant-loop-i : goal.invariant-loop-i
invariant-loop-i l = Marks l.mask l.i (λ k. is_eq (int_cmp (number_at l.a.lanes k) (number_at l.b.lanes k)))
