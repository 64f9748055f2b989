use Rattle.std.proofs.Common.{◌≤◌}
use Rattle.std.specs.Io.KnownBytes.{Appends}
use Rattle.scan_batches.specs.Lines.{text_of}
use Rattle.scan_batches.proofs.Puts.{between}
use Rattle.batch_lines.proofs.put.put_lines.Given as goal

abbrev pub invariant-loop-at : goal.invariant-loop-at
invariant-loop-at g l = record {
  put : Appends (g.O.Out.holds l.fn.out) (g.O.Out.holds l.out) (text_of (between l.from l.at l.lines));
  later : g.O.Out.faults l.fn.out ≤ g.O.Out.faults l.out;
}
