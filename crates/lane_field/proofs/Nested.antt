-- What the bytes of a cell denote, and those of a list or a struct.
use Rattle.std.proofs.Common.{◌≡◌, true, sym, ap, ◌∙◌, List, ℕ}
use Rattle.value_meaning.specs.Val.{Val}
use Rattle.block_meaning.specs.Tables.{Table}
use Rattle.block_meaning.specs.CellReading.{is_cell, cell_value}
use Rattle.ion_cells.specs.declared.cell.Cell.{Cell}
use Rattle.ion_cells.specs.Shown.{cell_bytes, shown}
use Rattle.lane_base.specs.Shown.{is_nested, IsTree}

pub value_of_bytes : (table : Table) (cell : Cell) (bytes : List ℕ) → bytes ≡ cell_bytes cell → cell_value table bytes ≡ shown table cell
unfolding shown
value_of_bytes table cell bytes e = ap (cell_value table) e

pub tree_of : (table : Table) (cell : Cell) (bytes : List ℕ) (v : Val) → bytes ≡ cell_bytes cell → is_cell table (cell_bytes cell) ≡ true → v ≡ shown table cell → is_nested v ≡ true → IsTree table bytes
tree_of table cell bytes v e legal is nested =
    record { legal = ap (is_cell table) e ∙ legal; nested = ap is_nested (value_of_bytes table cell bytes e ∙ sym is) ∙ nested }

pub same_shown : (table : Table) (a b : Cell) → cell_bytes a ≡ cell_bytes b → shown table a ≡ shown table b
unfolding shown
same_shown table a b e = ap (cell_value table) e
