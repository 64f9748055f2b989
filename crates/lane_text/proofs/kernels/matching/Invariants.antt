use Rattle.std.proofs.Common.{◌≡◌, ℕ, true}
use Rattle.std.specs.Prelude.{◌&&◌, nat_lt}
use Rattle.std.specs.Str.{IsUtf8}
use Rattle.eval_meaning.specs.Matching.{matches}
use Rattle.lane_base.specs.Bits.{has}
use Rattle.lane_base.specs.Registers.{span_at}
use Rattle.lane_text.proofs.kernels.matching.Given as goal

abbrev pub invariant-loop-i : goal.invariant-loop-i
invariant-loop-i l = record {
  matched : (k : ℕ) → (has l.texts.0 k ≡ true → IsUtf8 (span_at l.spans.lanes k))
      → has l.yes.0 k ≡ (nat_lt k l.i && (has l.texts.0 k && matches l.pattern.how l.pattern.text (span_at l.spans.lanes k)));
  within : (k : ℕ) → has l.yes.0 k ≡ (has l.texts.0 k && has l.yes.0 k);
}
