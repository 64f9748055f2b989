use Rattle.std.proofs.Common.{◌∙◌, refl, not, ◌&&◌}
use Rattle.value_meaning.specs.Val.{int}
use Rattle.eval_meaning.specs.Casts.{to_integer}
use Rattle.lane_base.specs.Bits.{has}
use Rattle.lane_base.specs.Registers.{value_at, number_at}
use Rattle.lane_base.proofs.LaneKinds.{null_lane}
use Rattle.lane_compare.proofs.StrictLanes.{one_as-strict}
use Rattle.lane_cast.specs.Made.{made_at}
use Rattle.lane_cast.proofs.Casting.{strict_one, legal_rest}
use Rattle.lane_cast.proofs.cast.integer16.Goals as goal

pub returns-clause-value : goal.returns-clause-value
returns-clause-value c table p i h =
    let a = c.args.a.now in
    let m = has c.args.m.0 i in
    let n = has a.null.0 i in
    c.ints.ensures.value table i h
    ∙ rw (c.and.ensures, c.and-2.ensures, c.minus-rest.ensures)
    (one_as-strict (m && n) (m && not n) (has c.integers_of-made.result.ok.0 i) (int (number_at c.integers_of-made.result.nums.lanes i))
    ∙ strict_one to_integer (value_at table a i) m n (made_at c.integers_of-made.result i) refl (λ t. null_lane table a i (p.lane i h t))
    (λ t. c.integers_of-made.ensures table (legal_rest table c.args.m.0 a.null.0 c.minus-rest.result.0 a c.minus-rest.ensures p) i h (c.minus-rest.ensures i ∙ t)))
