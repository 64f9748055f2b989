-- The cells of a block's rows, and where one of them stands.
use Rattle.std.specs.Prelude.{◌≡◌, ℕ, ◌+◌, ◌≤◌, true, List, [], ◌∷◌, length, map, drop, Some}
use Rattle.value_meaning.specs.Val.{Val}
use Rattle.block_meaning.specs.declared.TheConstants.{MOST_BLOCK_ROWS}
use Rattle.block_meaning.specs.Tables.{Table}
use Rattle.block_meaning.specs.CellReading.{cell_to}
use Rattle.block_meaning.specs.Blocks.{is_struct, rows_in}
use Rattle.ion_cells.specs.declared.cell.Cell.{Cell}
use Rattle.ion_cells.specs.Shown.{Fits, shown, cell_bytes}

-- each is a struct under the table
abbrev pub AreRowCells : Table → List Cell → Type 0
AreRowCells table [] = Unit {0}
AreRowCells table (c ∷ cs) = (Fits table c × (is_struct (shown table c) ≡ true)) × AreRowCells table cs

-- as many of them as a block may have
pub record AreBlockCells (table : Table) (cells : List Cell) : Type 0 where
  pub rows : AreRowCells table cells
  pub some : 1 ≤ length cells
  pub few : length cells ≤ MOST_BLOCK_ROWS

-- the cell is a row that stands at the place
pub record IsRowAt (table : Table) (bytes : List ℕ) (at : ℕ) (cell : Cell) : Type 0 where
  pub fits : Fits table cell
  pub is_struct : is_struct (shown table cell) ≡ true
  pub reads : cell_to table 128 (drop at bytes) ≡ Some (shown table cell, drop (at + length (cell_bytes cell)) bytes)

-- no row begins at the place
abbrev pub NoRowAt : Table → List ℕ → ℕ → Type 0
NoRowAt table bytes at = (v : Val) (rest : List ℕ) → cell_to table 128 (drop at bytes) ≡ Some (v, rest) → is_struct v ≡ true → ⊥

-- the cells are the rows that the bytes are, so many
pub record AreRowsOf (table : Table) (bytes : List ℕ) (count : ℕ) (cells : List Cell) : Type 0 where
  pub reads : rows_in table bytes ≡ Some (map (shown table) cells)
  pub rows : AreRowCells table cells
  pub long : length cells ≡ count

-- the bytes aren't so many rows
abbrev pub NoRowsOf : Table → List ℕ → ℕ → Type 0
NoRowsOf table bytes count = (rows : List Val) → rows_in table bytes ≡ Some rows → length rows ≡ count → ⊥
