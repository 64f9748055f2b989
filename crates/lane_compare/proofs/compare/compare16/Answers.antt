use Rattle.std.proofs.Common.{◌∙◌}
use Rattle.lane_base.specs.Bits.{has}
use Rattle.lane_base.proofs.BitLemmas.{has-and, has-or}
use Rattle.lane_compare.proofs.Ordered.{compare_value}
use Rattle.lane_compare.proofs.compare.compare16.Goals as goal

pub returns-clause-value : goal.returns-clause-value
returns-clause-value c table p q i h =
    c.truths.ensures.value table i h
    ∙ simp (c.minus.ensures, c.and-yes.ensures, c.or-2.ensures, c.or.ensures, c.and-both.ensures, c.and-truths_met.ensures, c.and-numbers_met.ensures, c.minus-rest.ensures, has-and, has-or)
    (compare_value c.args.op table c.args.a.now c.args.b.now i (has c.args.m.0 i) (has c.null16-null.result.0 i) (has c.truths_meet.result.0 i) (has c.numbers_meet.result.0 i) (has c.texts_meet-texts_met.result.0 i) (p.lane i h) (q.lane i h)
    (c.null16-null.ensures.value table p q i h) (c.truths_meet.ensures i h) (c.numbers_meet.ensures i h) (c.texts_meet-texts_met.ensures i h ∙ simp (c.and.ensures, c.minus-rest.ensures, has-and)))
