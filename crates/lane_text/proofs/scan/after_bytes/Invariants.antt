use Rattle.std.proofs.Common.{◌≡◌, ◌≤◌, length, drop}
use Rattle.lane_text.specs.Bytewise.{folded, after_bytes}
use Rattle.lane_text.proofs.scan.after_bytes.Given as goal

abbrev pub invariant-loop-sign : goal.invariant-loop-sign
invariant-loop-sign l = record {
  within : l.at ≤ length l.text;
  same : after_bytes l.piece (folded l.fold l.text) ≡ after_bytes (drop l.sign-index l.piece) (drop l.at (folded l.fold l.text));
}
