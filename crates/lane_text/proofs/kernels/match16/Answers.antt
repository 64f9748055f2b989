use Rattle.std.proofs.Common.{◌∙◌}
use Rattle.eval_meaning.specs.Matching.{matches}
use Rattle.lane_base.specs.Bits.{has}
use Rattle.lane_text.proofs.TextLanes.{span_utf8, test_value, test_apart}
use Rattle.lane_text.proofs.kernels.match16.Goals as goal

pub truths-requires : goal.truths-requires
truths-requires c k =
    rw (c.and.ensures, c.minus.ensures, c.and-texts.ensures)
    (test_apart c.args.a.now k (has c.args.m.0 k) (has c.matching-yes.result.0 k) (rw c.and-texts.ensures at (c.matching-yes.ensures.within k)))

pub returns-clause-value : goal.returns-clause-value
returns-clause-value c table p i h =
    c.truths.ensures.value table i h
    ∙ rw (c.and.ensures, c.minus.ensures, c.and-texts.ensures)
    (test_value table c.args.a.now i (has c.args.m.0 i) (has c.matching-yes.result.0 i) (matches c.args.pattern.now.how c.args.pattern.now.text) (p.lane i h)
    (rw c.and-texts.ensures at (c.matching-yes.ensures.value i h (λ t. span_utf8 table c.args.a.now i (has c.args.m.0 i) (p.lane i h) (rw c.and-texts.ensures at t)))))
