-- Cells and pairs end to end, as they stand within a cell.
use Rattle.std.specs.Prelude.{ℕ, Bool, List, [], length, drop, Option, Some, None, is_some, unwrap_or}
use Rattle.std.specs.Option.{option_map}
use Rattle.value_meaning.specs.Val.{Val, Vals, Fields, items, pairs}
use Rattle.block_meaning.specs.Tables.{Table, text_of}
use Rattle.block_meaning.specs.CellReading.{cell_to, cells_by, pairs_by, blank_table}
use Rattle.ion_cells.specs.Tags.{opening}

-- the bytes are cells that may stand in a list
unfoldable pub are_items : ℕ → List ℕ → Bool
are_items last bytes = is_some (cells_by (cell_to (blank_table last) 127) (length bytes) bytes)

-- the bytes are pairs that may stand in a struct, whose labels rise from low on
unfoldable pub are_fields : ℕ → ℕ → List ℕ → Bool
are_fields last low bytes = is_some (pairs_by (cell_to (blank_table last) 127) (blank_table last) low (length bytes) bytes)

abbrev pub values_read : Option Vals → List Val
values_read None = []
values_read (Some vs) = items vs

-- the values of the cells
unfoldable pub values_of : Table → List ℕ → List Val
values_of table bytes = values_read (cells_by (cell_to table 127) (length bytes) bytes)

abbrev pub pairs_read : Option Fields → List (List ℕ × Val)
pairs_read None = []
pairs_read (Some fs) = pairs fs

-- the names and values of the pairs
unfoldable pub pairs_of : Table → ℕ → List ℕ → List (List ℕ × Val)
pairs_of table low bytes = pairs_read (pairs_by (cell_to table 127) table low (length bytes) bytes)

-- the text of a number that has one
abbrev pub name_of : Table → ℕ → List ℕ
name_of table n = unwrap_or (text_of table n) []

-- the pair of a number's text and a value
abbrev pub named : Table → ℕ → Val → List ℕ × Val
named table n v = (name_of table n, v)

-- what follows the first cell, by its first bytes alone
unfoldable pub behind_cell : List ℕ → Option (List ℕ)
behind_cell bytes = option_map (λ x. drop x.1 x.2) (opening bytes)
