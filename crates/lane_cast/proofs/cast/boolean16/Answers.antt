use Rattle.std.proofs.Common.{◌∙◌, refl, not, ◌&&◌, false}
use Rattle.eval_meaning.specs.Casts.{to_boolean}
use Rattle.lane_base.specs.Bits.{has}
use Rattle.lane_base.specs.Registers.{value_at, truth_as}
use Rattle.lane_base.proofs.LaneKinds.{null_lane}
use Rattle.lane_cast.proofs.Casting.{strict_one, truth_as-made, legal_rest}
use Rattle.lane_cast.proofs.cast.boolean16.Goals as goal

pub returns-clause-value : goal.returns-clause-value
returns-clause-value c table p i h =
    let a = c.args.a.now in
    let m = has c.args.m.0 i in
    let n = has a.null.0 i in
    let yeses = has c.truths_of-made.result.yes.0 i in
    let noes = has c.truths_of-made.result.no.0 i in
    c.truths.ensures.value table i h
    ∙ rw (c.minus.ensures, c.and-2.ensures, c.and.ensures, c.and-yes.ensures, c.minus-rest.ensures)
    (truth_as-made (m && n) (m && not n) yeses noes
    ∙ strict_one to_boolean (value_at table a i) m n (truth_as false yeses noes) refl (λ t. null_lane table a i (p.lane i h t))
    (λ t. c.truths_of-made.ensures table (legal_rest table c.args.m.0 a.null.0 c.minus-rest.result.0 a c.minus-rest.ensures p) i h (c.minus-rest.ensures i ∙ t)))
