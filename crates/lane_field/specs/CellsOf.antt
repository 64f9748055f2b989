-- Lanes of cells, and what they denote under a symbol table.
use Rattle.std.specs.Prelude.{◌≡◌, ◌<◌, ◌≤◌, ◌-◌, ℕ, true, length, Option, None, Some, IfSome, cond, slice_index_or}
use Rattle.value_meaning.specs.Val.{Val, missing}
use Rattle.block_meaning.specs.Tables.{Table}
use Rattle.block_meaning.specs.CellReading.{is_cell}
use Rattle.ion_cells.specs.declared.cell.Cell.{Cell}
use Rattle.ion_cells.specs.Shown.{cell_bytes, cell_last, shown}
use Rattle.lane_base.specs.Bits.{has}
use Rattle.lane_field.specs.declared.cells.CellLanes.{CellLanes}

-- no cell
abbrev pub no_cell : Option Cell
no_cell = None

-- the cell of a lane, if it holds one
unfoldable pub cell_in : CellLanes → ℕ → Option Cell
cell_in lanes i = slice_index_or lanes.cells i no_cell

-- what a cell denotes under the table, and MISSING where there is none
abbrev pub denoted : Table → Option Cell → Val
denoted table None = missing
denoted table (Some cell) = shown table cell

-- The cell is one under the table, whose last number isn't above that of the cell's own tables.
pub record IsCellOf (table : Table) (cell : Cell) : Type 0 where
  pub legal : is_cell table (cell_bytes cell) ≡ true
  pub few : length table ≤ cell_last cell - 9

-- Each cell in a lane of the mask is one under the table.
pub record AreCellsOf (table : Table) (mask : ℕ) (lanes : CellLanes) : Type 0 where
  pub lane : (i : ℕ) → i < 16 → has mask i ≡ true → IfSome (cell_in lanes i) (IsCellOf table)

-- the cell of a lane of the mask
abbrev pub cell_within : ℕ → CellLanes → ℕ → Option Cell
cell_within mask lanes i = cond (has mask i) (cell_in lanes i) no_cell
