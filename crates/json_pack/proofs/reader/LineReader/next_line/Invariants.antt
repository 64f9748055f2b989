use Rattle.std.proofs.Common.{◌≤◌, ◌-◌, ◌+◌, length}
use Rattle.std.specs.Io.KnownBytes.{Consumes}
use Rattle.pack_meaning.specs.declared.TheConstants.{MOST_LINE_BYTES}
use Rattle.pack_meaning.specs.Splitting.{HasNoEnd}
use Rattle.json_pack.specs.Reading.{IsReady, ahead}
use Rattle.json_pack.proofs.reader.LineReader.next_line.Given as goal

abbrev pub invariant-loop-self : goal.invariant-loop-self
invariant-loop-self g l = record {
  ready : IsReady l.self;
  taken : Consumes (ahead l.fn.self (g.I.Input.left l.fn.input)) (ahead l.self (g.I.Input.left l.input)) l.self.line.items;
  bare : HasNoEnd l.self.line.items;
  later : g.I.Input.faults l.fn.input ≤ g.I.Input.faults l.input;
}

abbrev pub decreases-loop-self : goal.decreases-loop-self
decreases-loop-self g l = MOST_LINE_BYTES + 1 - length l.self.line.items
