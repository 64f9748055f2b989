use Rattle.std.proofs.Common.{◌∙◌}
use Rattle.eval_meaning.specs.Numbers.{computed}
use Rattle.lane_base.specs.Bits.{has}
use Rattle.lane_base.specs.Registers.{number_at}
use Rattle.lane_cast.proofs.Strictly.{two_value}
use Rattle.lane_cast.proofs.math.math16.Goals as goal

pub returns-clause-value : goal.returns-clause-value
returns-clause-value c table p q i h =
    c.ints.ensures.value table i h
    ∙ rw (c.and-2.ensures, c.and-both.ensures, c.and.ensures, c.minus.ensures)
    (two_value table c.args.a.now i c.args.b.now (computed c.args.op) (has c.args.m.0 i) (has c.null16-null.result.0 i) (has c.computed-made.result.ok.0 i) (number_at c.computed-made.result.nums.lanes i)
    (p.lane i h) (q.lane i h) (c.null16-null.ensures.value table p q i h) (λ t. c.computed-made.ensures i h (simp (c.and-both.ensures, c.and.ensures, c.minus.ensures) t)))
