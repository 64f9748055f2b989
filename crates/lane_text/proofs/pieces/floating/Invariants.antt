use Rattle.std.proofs.Common.{◌≡◌, ◌≤◌, ◌<◌, ◌-◌, length, drop, map, IsUtf8}
use Rattle.std.specs.Str.{chars}
use Rattle.lane_text.specs.Bytewise.{folded}
use Rattle.lane_text.specs.Pieces as spec
use Rattle.lane_text.proofs.pieces.floating.Given as goal

abbrev pub invariant-loop-index : goal.invariant-loop-index
invariant-loop-index l = record {
  within : l.at ≤ length l.text;
  some : l.index < length l.pieces;
  utf8 : IsUtf8 (drop l.from (folded l.fold l.text)) → IsUtf8 (drop l.at (folded l.fold l.text));
  same : IsUtf8 (drop l.from (folded l.fold l.text)) → spec.floating (map chars l.pieces) (chars (drop l.from (folded l.fold l.text)))
      ≡ spec.floating (map chars (drop l.index l.pieces)) (chars (drop l.at (folded l.fold l.text)));
}

abbrev pub decreases-loop-index : goal.decreases-loop-index
decreases-loop-index l = length l.pieces - l.index
