use Rattle.std.specs.Prelude.{◌&&◌}
use Rattle.std.specs.Ordering.{nat_cmp}
use Rattle.std.specs.Cmp.Lexicographic.{slice_cmp}
use Rattle.eval_meaning.specs.Comparisons.{meets}
use Rattle.lane_base.specs.Bits.{has}
use Rattle.lane_base.specs.Registers.{span_at}
use Rattle.lane_compare.proofs.Marks.{Marks}
use Rattle.lane_compare.proofs.texts.each_text_meets.Given as goal

abbrev pub invariant-loop-i : goal.invariant-loop-i
invariant-loop-i l = Marks l.mask l.i (λ k. has l.m.0 k && meets l.op (slice_cmp nat_cmp (span_at l.a.lanes k) (span_at l.b.lanes k)))
