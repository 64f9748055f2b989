use Rattle.std.proofs.Common.{◌≤◌, ◌-◌, length, drop}
use Rattle.block_meaning.specs.Tables.{Table}
use Rattle.ion_cells.specs.Standing.{HasLast}
use Rattle.block_file.proofs.RowsRead.{Walked}
use Rattle.block_file.proofs.rows.rows_at.Given as goal

abbrev pub invariant-loop-cells : goal.invariant-loop-cells
invariant-loop-cells l = record {
  walked : (table : Table) → HasLast table l.last → Walked table (drop l.start l.bytes) l.cells.items (drop l.at l.bytes);
  few : length l.cells.items ≤ l.count;
  within : l.at ≤ length l.bytes;
}

abbrev pub decreases-loop-cells : goal.decreases-loop-cells
decreases-loop-cells l = l.count - length l.cells.items
