use Rattle.std.proofs.Common.{arith, sym, ◌∙◌}
use Rattle.std.specs.Prelude.{◌&&◌}
use Rattle.std.specs.Ordering.{nat_cmp}
use Rattle.std.specs.Cmp.Lexicographic.{slice_cmp}
use Rattle.eval_meaning.specs.Comparisons.{meets}
use Rattle.lane_base.specs.Bits.{has}
use Rattle.lane_base.specs.Registers.{span_at}
use Rattle.lane_compare.proofs.Marks.{Marks-none, Marks-set, Marks-skip}
use Rattle.lane_compare.proofs.Tested.{both_hold, first_fails, second_fails}
use Rattle.lane_compare.proofs.texts.each_text_meets.Goals as goal
use Rattle.lane_compare.proofs.texts.each_text_meets.Goals.{then-has+then-text_meets, else-has, else-has-via-then-has+else-text_meets, else-has-via-else-has}

pub loop-i-init : goal.loop-i-init
loop-i-init c = Marks-none (λ k. has c.args.m.0 k && meets c.args.op (slice_cmp nat_cmp (span_at c.args.a.now.lanes k) (span_at c.args.b.now.lanes k)))

pub loop-i-preserved : goal.loop-i-preserved
loop-i-preserved c =
    let within = c.has.ensures in
    elim c.if-has.branch [
      | then-has+then-text_meets w ↦
          rw w.mask-is (Marks-set c.loop-i.mask c.loop-i.i _ (omega arith) c.loop-i.invariant
          (both_hold _ _ (sym within ∙ w.if-has.true) (sym w.text_meets.ensures ∙ w.if-text_meets.true)))
      | else-has w ↦
          rw w.mask-is (Marks-skip c.loop-i.mask c.loop-i.i _ c.loop-i.invariant
          (elim w.else-has.branch [
            | else-has-via-then-has+else-text_meets u ↦ second_fails _ _ (sym u.text_meets.ensures ∙ u.if-text_meets.false)
            | else-has-via-else-has u ↦ first_fails _ _ (sym within ∙ u.if-has.false)
          ]))
    ]
