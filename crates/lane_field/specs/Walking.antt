-- What a walk over the items of a list finds.
use Rattle.std.specs.Prelude.{◌≡◌, ◌≤◌, ℕ, List, Option, Some, IfSome, slice_get}
use Rattle.std.specs.Option.{option_map}
use Rattle.value_meaning.specs.Val.{vals, fields}
use Rattle.value_meaning.specs.Pairs.{value_of}
use Rattle.block_meaning.specs.Tables.{Table, text_of}
use Rattle.ion_cells.specs.declared.cell.Cell.{Cell}
use Rattle.ion_cells.specs.declared.iterators.Cells.{Cells}
use Rattle.ion_cells.specs.declared.iterators.Fields.{Fields}
use Rattle.ion_cells.specs.Shown.{shown, cell_last}
use Rattle.ion_cells.specs.Standing.{HasLast}
use Rattle.ion_cells.specs.Iterating.{items_last, values_left, fields_last, pairs_left}
use Rattle.lane_field.specs.Longest.{longest, vals_longest, fields_longest}

-- The item at the place, counted from 0, if there is one.
pub record GivesItem (items : Cells) (at : ℕ) (r : Option Cell) : Type 0 where
  pub last : IfSome r (λ cell. cell_last cell ≡ items_last items)
  pub within : (table : Table) → HasLast table (items_last items) → IfSome r (λ cell. longest (shown table cell) ≤ vals_longest (vals (values_left table items)))
  pub value : (table : Table) → HasLast table (items_last items) → option_map (shown table) r ≡ slice_get (values_left table items) at
