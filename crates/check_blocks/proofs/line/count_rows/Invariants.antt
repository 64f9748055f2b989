use Rattle.std.proofs.Common.{◌≡◌, ◌*◌, ◌≤◌, take}
use Rattle.check_blocks.specs.Tested.{rows_of}
use Rattle.check_blocks.proofs.line.count_rows.Given as goal

abbrev pub invariant-loop-number : goal.invariant-loop-number
invariant-loop-number l = record {
  counted : l.rows ≡ rows_of (take l.number l.entries);
  few : l.rows ≤ l.number * 4_294_967_296;
}
