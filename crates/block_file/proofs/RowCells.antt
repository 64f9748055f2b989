-- One of the cells of a block's rows.
use Rattle.std.proofs.Common.{◌≡◌, ℕ, zero, suc, ◌<◌, true, List, [], ◌∷◌, length, map, Some, refl, arith}
use Rattle.std.specs.Prelude.{slice_get, slice_index_or}
use Rattle.block_meaning.specs.Tables.{Table}
use Rattle.block_meaning.specs.Blocks.{is_struct, AreRows}
use Rattle.ion_cells.specs.declared.cell.Cell.{Cell}
use Rattle.ion_cells.specs.Shown.{Fits, shown}
use Rattle.block_file.specs.Rows.{AreRowCells}

pub record RowCell (table : Table) (cells : List Cell) (i : ℕ) (c : Cell) : Type 0 where
  pub fits : Fits table c
  pub is_struct : is_struct (shown table c) ≡ true
  pub shows : slice_get (map (shown table) cells) i ≡ Some (shown table c)

pub row_cell : (table : Table) (cells : List Cell) (i : ℕ) (c : Cell) → i < length cells → c ≡ slice_index_or cells i c → AreRowCells table cells → RowCell table cells i c
row_cell table [] i c in_range is all = absurd (omega arith)
row_cell table (d ∷ cells) zero c in_range is all = rw is record { fits = all.0.0; is_struct = all.0.1; shows = refl }
row_cell table (d ∷ cells) (suc i) c in_range is all =
    let r = row_cell table cells i c (omega arith) is all.1 in
    record { fits = r.fits; is_struct = r.is_struct; shows = r.shows }

pub rows_are : (table : Table) (cells : List Cell) → AreRowCells table cells → AreRows (map (shown table) cells)
rows_are table [] all = tt
rows_are table (c ∷ cells) all = (all.0.1, rows_are table cells all.1)
