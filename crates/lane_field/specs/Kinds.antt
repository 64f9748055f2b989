-- The lanes whose cells are of a kind.
use Rattle.std.specs.Prelude.{◌≡◌, ◌<◌, ℕ, Bool, false, Option, None, Some, nat_eq}
use Rattle.block_meaning.specs.Tables.{Table}
use Rattle.ion_cells.specs.declared.cell.Cell.{Cell}
use Rattle.ion_cells.specs.declared.kind.Kind.{Kind}
use Rattle.ion_cells.specs.declared.kind.Kind.TheVariants as kinds
use Rattle.ion_cells.specs.Kinds.{kind_of}
use Rattle.ion_cells.specs.Shown.{shown, is_symbol_cell}
use Rattle.lane_base.specs.Bits.{has}
use Rattle.lane_field.specs.declared.kinds.KindMasks.{KindMasks}
use Rattle.lane_field.specs.declared.cells.CellLanes.{CellLanes}
use Rattle.lane_field.specs.CellsOf.{cell_within, AreCellsOf}

-- the kinds by number
abbrev pub rank : Kind → ℕ
rank kinds.Null = 0
rank kinds.Bool = 1
rank kinds.Int = 2
rank kinds.Time = 3
rank kinds.Symbol = 4
rank kinds.Text = 5
rank kinds.List = 6
rank kinds.Struct = 7

abbrev pub same_kind : Kind → Kind → Bool
same_kind a b = nat_eq (rank a) (rank b)

-- the mask of a kind
abbrev pub mask_of : Kind → KindMasks → ℕ
mask_of kinds.Null masks = masks.nulls.0
mask_of kinds.Bool masks = masks.bools.0
mask_of kinds.Int masks = masks.ints.0
mask_of kinds.Time masks = masks.times.0
mask_of kinds.Symbol masks = masks.symbols.0
mask_of kinds.Text masks = masks.texts.0
mask_of kinds.List masks = masks.lists.0
mask_of kinds.Struct masks = masks.structs.0

-- there is a cell, and it is of the kind under the table
abbrev pub is_of_kind : Table → Kind → Option Cell → Bool
is_of_kind table kind None = false
is_of_kind table kind (Some cell) = same_kind kind (kind_of (is_symbol_cell cell) (shown table cell))

-- Each lane of the mask that holds a cell is in the mask of its kind, and in no other; no other lane is in any.
abbrev pub KindsAre : ℕ → CellLanes → KindMasks → Type 0
KindsAre mask lanes masks =
    (table : Table) → AreCellsOf table mask lanes → (kind : Kind) (i : ℕ) → i < 16
    → has (mask_of kind masks) i ≡ is_of_kind table kind (cell_within mask lanes i)
