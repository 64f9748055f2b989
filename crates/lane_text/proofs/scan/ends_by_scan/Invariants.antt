use Rattle.std.proofs.Common.{◌≡◌, ◌≤◌, ◌-◌, length, drop, IsUtf8}
use Rattle.std.specs.Str.{chars}
use Rattle.lane_text.specs.Bytewise.{folded}
use Rattle.lane_text.specs.Pieces.{ends_in}
use Rattle.lane_text.proofs.scan.ends_by_scan.Given as goal

abbrev pub invariant-loop-at : goal.invariant-loop-at
invariant-loop-at l = record {
  within : l.at ≤ length l.text;
  utf8 : IsUtf8 (folded l.fold l.text) → IsUtf8 (drop l.at (folded l.fold l.text));
  same : IsUtf8 (folded l.fold l.text)
      → ends_in (chars l.piece) (chars (folded l.fold l.text)) ≡ ends_in (chars l.piece) (chars (drop l.at (folded l.fold l.text)));
}

abbrev pub decreases-loop-at : goal.decreases-loop-at
decreases-loop-at l = length l.text - l.at
