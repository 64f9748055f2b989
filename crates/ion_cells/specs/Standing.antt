-- Where a cell stands in bytes, whatever texts its table has.
use Rattle.std.specs.Prelude.{◌≡◌, ℕ, ◌-◌, List, length, drop, Option}
use Rattle.std.specs.Option.{option_map}
use Rattle.value_meaning.specs.Val.{Val}
use Rattle.block_meaning.specs.Tables.{Table}
use Rattle.block_meaning.specs.Cells.{IsCell}
use Rattle.block_meaning.specs.CellReading.{cell_to}
use Rattle.block_meaning.specs.Laws.{HasFront}

-- The last number of the table, 9 where it has no text. A number below 9 stands for 9.
abbrev pub HasLast : Table → ℕ → Type 0
HasLast table last = length table ≡ last - 9

-- Under each table with this last number a cell of some value stands from one place to the other.
abbrev pub StandsBetween : ℕ → ℕ → List ℕ → ℕ → ℕ → Type 0
StandsBetween last depth bytes at end =
    (table : Table) → HasLast table last → (v : Val) × HasFront (IsCell table depth v) (drop at bytes) (drop end bytes)

-- Under no table with this last number a cell of any value begins at the place.
abbrev pub StandsNowhere : ℕ → ℕ → List ℕ → ℕ → Type 0
StandsNowhere last depth bytes at =
    (table : Table) → HasLast table last → (v : Val) (rest : List ℕ) → HasFront (IsCell table depth v) (drop at bytes) rest → ⊥

-- What the reader finds at the place under each table with this last number: what follows a cell, or none.
abbrev pub Reads : ℕ → ℕ → List ℕ → ℕ → Option (List ℕ) → Type 0
Reads last depth bytes at rest =
    (table : Table) → HasLast table last → option_map (λ x. x.1) (cell_to table (128 - depth) (drop at bytes)) ≡ rest
