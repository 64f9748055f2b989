-- What a borrowed cell shows.
use Rattle.std.specs.Prelude.{ℕ, Bool, List, drop, Option, Some, is_some}
use Rattle.value_meaning.specs.Val.{Val}
use Rattle.block_meaning.specs.Tables.{Table}
use Rattle.block_meaning.specs.CellReading.{cell_value}
use Rattle.block_meaning.specs.Blocks.{only_payload}
use Rattle.ion_cells.specs.declared.cell.Cell.{Cell}
use Rattle.ion_cells.specs.declared.tag.Tag.{Tag}
use Rattle.ion_cells.specs.Standing.{HasLast}

-- the bytes of the cell
unfoldable pub cell_bytes : Cell → List ℕ
cell_bytes cell = cell.bytes.now

-- the last number of the tables under which it is a cell
unfoldable pub cell_last : Cell → ℕ
cell_last cell = cell.last

-- what the first bytes of the cell say, and what stands behind them
unfoldable pub cell_tag : Cell → Tag
cell_tag cell = cell.tag

unfoldable pub cell_content : Cell → List ℕ
cell_content cell = drop cell.start cell.bytes.now

-- the cell is one under the table
abbrev pub Fits : Table → Cell → Type 0
Fits table cell = HasLast table (cell_last cell)

-- the value that the cell denotes under the table
unfoldable pub shown : Table → Cell → Val
shown table cell = cell_value table (cell_bytes cell)

-- a text's number stands in the cell, and not its bytes
unfoldable pub is_symbol_cell : Cell → Bool
is_symbol_cell cell = is_some (only_payload 7 (cell_bytes cell))

-- what the reader answers for the cell and what follows it
abbrev pub shown_before : Table → Cell → List ℕ → Option (Val × List ℕ)
shown_before table cell rest = Some (shown table cell, rest)
