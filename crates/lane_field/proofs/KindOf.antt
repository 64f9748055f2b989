-- The kind of a cell, under each table of the cell.
use Rattle.std.proofs.Common.{◌≡◌, Option, Some, sym, ap, ◌∙◌}
use Rattle.std.specs.Prelude.{IfSome}
use Rattle.block_meaning.specs.Tables.{Table}
use Rattle.ion_cells.specs.declared.cell.Cell.{Cell}
use Rattle.ion_cells.specs.declared.kind.Kind.{Kind}
use Rattle.ion_cells.specs.Kinds.{kind_of}
use Rattle.ion_cells.specs.Shown.{shown, is_symbol_cell, Fits}
use Rattle.lane_field.specs.CellsOf.{IsCellOf, denoted}
use Rattle.lane_field.specs.Kinds.{is_of_kind, same_kind}
use Rattle.lane_field.proofs.OwnTables.{of_cell}

pub kind_is : (o : Option Cell) (cell : Cell) (r : Kind) → o ≡ Some cell → ((t : Table) → Fits t cell → r ≡ kind_of (is_symbol_cell cell) (shown t cell)) → (table : Table) → IfSome o (IsCellOf table) → (kind : Kind) → same_kind kind r ≡ is_of_kind table kind o
kind_is o cell r e f table h kind =
    let here : r ≡ kind_of (is_symbol_cell cell) (denoted table o) = of_cell (kind_of (is_symbol_cell cell)) o cell r e f table h in
    let there : denoted table o ≡ shown table cell = ap (denoted table) e in
    ap (same_kind kind) (here ∙ ap (kind_of (is_symbol_cell cell)) there) ∙ sym (ap (is_of_kind table kind) e)
