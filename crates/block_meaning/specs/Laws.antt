-- Laws of cells, symbol tables and blocks.
use Rattle.std.specs.Prelude.{◌≡◌, ◌↔◌, ℕ, ◌-◌, List, ◌++◌, length, Some, All}
use Rattle.std.specs.Option.{option_map}
use Rattle.value_meaning.specs.Val.{Val, vals}
use Rattle.value_meaning.specs.Sound.{AreSound}
use Rattle.block_meaning.specs.declared.TheConstants.{MOST_DEPTH}
use Rattle.block_meaning.specs.Tables.{Table}
use Rattle.block_meaning.specs.Cells.{IsCell}
use Rattle.block_meaning.specs.CellReading.{cell_to}
use Rattle.block_meaning.specs.Stored.{IsStored}
use Rattle.block_meaning.specs.Blocks.{IsTable, IsBlock, table_at, block_in}

-- a front of the bytes is meant, and this is what follows it
abbrev pub HasFront : (List ℕ → Type 0) → List ℕ → List ℕ → Type 0
HasFront Front bytes rest = (front : List ℕ) × (bytes ≡ front ++ rest) × Front front

-- Reading answers exactly the cell that stands at the front, within whatever number of lists and structs.
abbrev pub CellsAreRead : Type 0
CellsAreRead =
    (table : Table) (depth : ℕ) (v : Val) (bytes rest : List ℕ)
    → (cell_to table (MOST_DEPTH - depth) bytes ≡ Some (v, rest)) ↔ HasFront (IsCell table depth v) bytes rest

abbrev pub TablesAreRead : Type 0
TablesAreRead =
    (table : Table) (bytes rest : List ℕ) → (table_at bytes ≡ Some (table, rest)) ↔ HasFront (IsTable table) bytes rest

abbrev pub BlocksAreRead : Type 0
BlocksAreRead = (table : Table) (rows : List Val) (bytes : List ℕ) → (block_in bytes ≡ Some (table, rows)) ↔ IsBlock table rows bytes

-- Bytes stand for at most one list of rows.
abbrev pub OneListOfRows : Type 0
OneListOfRows =
    (t u : Table) (rows others : List Val) (bytes : List ℕ) → IsBlock t rows bytes → IsBlock u others bytes → (t ≡ u) × (rows ≡ others)

-- Which bytes are a cell depends on the table's last number alone.
abbrev pub LastSymbolDecides : Type 0
LastSymbolDecides =
    (t u : Table) (room : ℕ) (bytes : List ℕ) → length t ≡ length u
    → option_map (λ x. x.1) (cell_to t room bytes) ≡ option_map (λ x. x.1) (cell_to u room bytes)

-- The rows of a block have names that rise and texts that are UTF-8, at every depth, and each of them is stored.
abbrev pub RowsAreSound : Type 0
RowsAreSound =
    (table : Table) (rows : List Val) (bytes : List ℕ) → IsBlock table rows bytes → AreSound (vals rows) × All IsStored rows

-- What a cell denotes is stored.
abbrev pub CellsAreStored : Type 0
CellsAreStored = (table : Table) (v : Val) (bytes : List ℕ) → IsCell table 0 v bytes → IsStored v
