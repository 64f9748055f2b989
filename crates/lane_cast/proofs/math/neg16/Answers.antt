use Rattle.std.proofs.Common.{◌∙◌, ap, ℤ, neg_ℤ, ◌-ℤ◌}
use Rattle.eval_meaning.specs.Numbers.{fitted}
use Rattle.lane_base.specs.Bits.{has}
use Rattle.lane_base.specs.Registers.{number_at}
use Rattle.lane_cast.proofs.Strictly.{one_value}
use Rattle.lane_cast.proofs.Fitting.{zeros_at, zero_minus}
use Rattle.lane_cast.proofs.math.neg16.Goals as goal

pub returns-clause-value : goal.returns-clause-value
returns-clause-value c table p i h =
    c.ints.ensures.value table i h
    ∙ rw (c.and.ensures, c.and-2.ensures, c.and-number.ensures, c.minus.ensures)
    (one_value table c.args.a.now i (λ n. fitted (neg_ℤ n)) (has c.args.m.0 i) (has c.each_lane-made.result.ok.0 i) (number_at c.each_lane-made.result.nums.lanes i) (p.lane i h) (c.each_lane-made.ensures i h ∙ ap fitted (ap (λ (z : ℤ). z -ℤ number_at c.args.a.now.nums.lanes i) (zeros_at 16 i) ∙ zero_minus (number_at c.args.a.now.nums.lanes i))))
