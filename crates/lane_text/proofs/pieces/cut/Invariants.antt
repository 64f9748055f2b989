use Rattle.std.proofs.Common.{◌≡◌, ◌≤◌, ◌-◌, ◌++◌, length, drop, IsUtf8}
use Rattle.lane_text.specs.Pieces.{pieces}
use Rattle.lane_text.proofs.pieces.cut.Given as goal

abbrev pub invariant-loop-count : goal.invariant-loop-count
invariant-loop-count l = record {
  within : l.start ≤ length l.pattern;
  utf8 : IsUtf8 (drop l.start l.pattern);
  same : l.pieces.items ++ pieces (drop l.start l.pattern) ≡ pieces l.pattern;
}

abbrev pub decreases-loop-count : goal.decreases-loop-count
decreases-loop-count l = length l.pattern - l.start
