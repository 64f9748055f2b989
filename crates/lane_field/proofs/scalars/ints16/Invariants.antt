use Rattle.std.proofs.Common.{◌≡◌, pos, length}
use Rattle.std.specs.Prelude.{unwrap_or}
use Rattle.ion_cells.specs.Values.{int_of}
use Rattle.block_meaning.specs.Tables.{Table}
use Rattle.lane_field.specs.CellsOf.{cell_within, denoted, AreCellsOf}
use Rattle.lane_base.proofs.Filled.{Filled}
use Rattle.lane_field.proofs.scalars.ints16.Given as goal

abbrev pub invariant-loop-i : goal.invariant-loop-i
invariant-loop-i l = record {
  long : length l.lanes ≡ 16;
  filled : (table : Table) → AreCellsOf table l.m.0 l.c → Filled (λ k z. z ≡ unwrap_or (int_of (denoted table (cell_within l.m.0 l.c k))) (pos 0)) (pos 0) l.lanes l.i;
}
