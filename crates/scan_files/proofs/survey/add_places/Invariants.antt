use Rattle.std.proofs.Common.{◌≤◌, ◌+◌, length}
use Rattle.scan_files.proofs.Surveying.{Adding}
use Rattle.scan_files.proofs.survey.add_places.Given as goal

abbrev pub invariant-loop-number : goal.invariant-loop-number
invariant-loop-number l = record {
  adding : Adding l.limits l.file l.entries l.number l.initial.places.items l.places.items l.skipped;
  few : l.skipped ≤ l.number;
  room : length l.places.items ≤ length l.initial.places.items + l.number;
}
