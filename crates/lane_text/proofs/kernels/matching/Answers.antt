use Rattle.std.proofs.Common.{◌≡◌, true, sym, subst}
use Rattle.std.specs.Prelude.{◌&&◌}
use Rattle.std.specs.Str.{IsUtf8}
use Rattle.eval_meaning.specs.Matching.{matches}
use Rattle.lane_base.specs.Bits.{has}
use Rattle.lane_base.specs.Registers.{span_at}
use Rattle.lane_text.proofs.LaneLoops.{next_lane, next_within}
use Rattle.lane_text.proofs.kernels.matching.Goals as goal

pub loop-i-preserved : goal.loop-i-preserved
loop-i-preserved c =
    let how = c.args.pattern.now.how in
    let pattern = c.args.pattern.now.text in
    let texts = c.args.texts.0 in
    let spans = c.args.spans.now.lanes in
    let hit = c.matches_in.result in
    record {
      matched = λ k legal.
          next_lane (λ j. has texts j && matches how pattern (span_at spans j)) k c.loop-i.i (has c.loop-i.yes.0 k) (has c.with_lane-yes.result.0 k) hit
          (c.with_lane-yes.ensures k)
          (λ same. subst (λ j. (has texts j ≡ true → IsUtf8 (span_at spans j)) → hit ≡ (has texts j && matches how pattern (span_at spans j))) (sym same) c.matches_in.ensures.value legal)
          (c.loop-i.invariant.matched k legal);
      within = λ k. next_within (has texts) k c.loop-i.i (has c.loop-i.yes.0 k) (has c.with_lane-yes.result.0 k) hit (c.with_lane-yes.ensures k) c.matches_in.ensures.within (c.loop-i.invariant.within k);
    }
