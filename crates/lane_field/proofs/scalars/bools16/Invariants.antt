use Rattle.std.proofs.Common.{◌≡◌, ℕ, false}
use Rattle.std.specs.Prelude.{unwrap_or, ◌&&◌, nat_lt}
use Rattle.ion_cells.specs.Values.{truth_of}
use Rattle.block_meaning.specs.Tables.{Table}
use Rattle.lane_base.specs.Bits.{has}
use Rattle.lane_field.specs.CellsOf.{cell_within, denoted, AreCellsOf}
use Rattle.lane_field.proofs.scalars.bools16.Given as goal

abbrev pub invariant-loop-i : goal.invariant-loop-i
invariant-loop-i l =
    (table : Table) → AreCellsOf table l.m.0 l.c → (k : ℕ) → has l.lanes.0 k ≡ (nat_lt k l.i && unwrap_or (truth_of (denoted table (cell_within l.m.0 l.c k))) false)
