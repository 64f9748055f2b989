use Rattle.std.proofs.Common.{◌≡◌, ◌<◌, ℕ, pos, true, length}
use Rattle.std.specs.Str.{IsUtf8, chars}
use Rattle.lane_base.specs.Bits.{has}
use Rattle.lane_base.specs.Registers.{number_at, span_at}
use Rattle.lane_text.proofs.kernels.lengths.Given as goal

abbrev pub invariant-loop-i : goal.invariant-loop-i
invariant-loop-i l = record {
  long : length l.lanes ≡ 16;
  counted : (k : ℕ) → k < l.i → has l.texts.0 k ≡ true → IsUtf8 (span_at l.spans.lanes k) → number_at l.lanes k ≡ pos (length (chars (span_at l.spans.lanes k)));
}
