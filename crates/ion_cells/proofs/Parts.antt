-- What stands in a cell: one byte alone, or a payload of a type.
use Rattle.std.specs.Prelude.{◌≡◌, ℕ, List, length, Some, slice_index}
use Rattle.block_meaning.specs.Tables.{Table}
use Rattle.block_meaning.specs.CellReading.{one_byte, head_at, cell_value}
use Rattle.ion_cells.specs.Standing.{HasLast}
use Rattle.ion_cells.specs.Steps.{payload_to}

-- the first byte is the whole cell
pub record IsAlone (last : ℕ) (bytes : List ℕ) : Type 0 where
  pub value : (table : Table) → HasLast table last → one_byte (slice_index bytes 0) ≡ Some (cell_value table bytes)

-- the cell is a head of this type and this payload
pub record HasPart (last : ℕ) (bytes : List ℕ) (t : ℕ) (payload : List ℕ) : Type 0 where
  pub heads : head_at bytes ≡ Some (t, length payload, payload)
  pub value : (table : Table) → HasLast table last → payload_to table 128 t payload ≡ Some (cell_value table bytes)
