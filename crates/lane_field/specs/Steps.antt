-- One step from the values of lanes to their parts.
use Rattle.std.specs.Prelude.{◌≡◌, ◌<◌, ◌^◌, ℕ, List, true, false, Option, None, Some, IfSome}
use Rattle.block_meaning.specs.Tables.{Table, last_symbol, text_of, TextsRise}
use Rattle.block_meaning.specs.CellReading.{is_cell}
use Rattle.tree_meaning.specs.Tree.{Step, name, at}
use Rattle.eval_meaning.specs.Paths.{step_of}
use Rattle.ion_cells.specs.declared.cell.Cell.{Cell}
use Rattle.lane_base.specs.declared.lanes.Lanes.{Lanes}
use Rattle.lane_base.specs.Bits.{has}
use Rattle.lane_base.specs.Registers.{value_at, under, AreLegalIn}
use Rattle.lane_field.specs.declared.cells.CellLanes.{CellLanes}
use Rattle.lane_field.specs.CellsOf.{cell_in, denoted, no_cell, IsCellOf}

-- What the lanes of the mask show is legal under the table, whose numbers have 32 bits.
pub record AreUnder (table : Table) (mask : ℕ) (lanes : Lanes) : Type 0 where
  pub legal : AreLegalIn table mask lanes
  pub few : last_symbol table < 2 ^ 32

-- the same under some table
pub record AreUnderOne (mask : ℕ) (lanes : Lanes) : Type 0 where
  pub table : Table
  pub are_under : AreUnder table mask lanes

-- The bytes are a cell under the table, whose numbers have 32 bits.
pub record IsUnder (table : Table) (bytes : List ℕ) : Type 0 where
  pub legal : is_cell table bytes ≡ true
  pub few : last_symbol table < 2 ^ 32

-- the same under some table
pub record IsUnderOne (bytes : List ℕ) : Type 0 where
  pub table : Table
  pub is_under : IsUnder table bytes

-- the number of the name in the table, None where the table lacks it
abbrev pub IsNumberOf : Table → List ℕ → Option ℕ → Type 0
IsNumberOf table n None = (k : ℕ) → text_of table k ≡ Some n → ⊥
IsNumberOf table n (Some k) = text_of table k ≡ Some n

-- Each lane of the mask holds what the step gives of the value there, no cell where that is MISSING; no other lane holds a cell.
abbrev pub StepsAre : Table → Step → ℕ → Lanes → CellLanes → Type 0
StepsAre table step mask lanes cells =
    (i : ℕ) → i < 16 → denoted table (cell_in cells i) ≡ under (has mask i) (step_of step (value_at table lanes i))

-- Finding a name by its number gives its value, under each table under which the lanes are legal.
abbrev pub FindsNames : Option ℕ → ℕ → Lanes → CellLanes → Type 0
FindsNames symbol mask lanes cells =
    (table : Table) → AreUnder table mask lanes → TextsRise table → (n : List ℕ) → IsNumberOf table n symbol
    → StepsAre table (name n) mask lanes cells

-- The items at the place, counted from 0, are given, under each table under which the lanes are legal.
abbrev pub GivesItems : ℕ → ℕ → Lanes → CellLanes → Type 0
GivesItems place mask lanes cells = (table : Table) → AreUnder table mask lanes → StepsAre table (at place) mask lanes cells

-- the number is the name's in the table
pub record IsNamed (symbol : ℕ) (n : List ℕ) (table : Table) : Type 0 where
  pub rise : TextsRise table
  pub names : text_of table symbol ≡ Some n

-- What one lane holds after the step, where the table is as asked.
pub record StepAt (step : Step) (Asked : Table → Type 0) (mask : ℕ) (lanes : Lanes) (i : ℕ) (o : Option Cell) : Type 0 where
  pub none : has mask i ≡ false → o ≡ no_cell
  pub legal : (table : Table) → AreUnder table mask lanes → IfSome o (IsCellOf table)
  pub value : (table : Table) → AreUnder table mask lanes → Asked table → denoted table o ≡ under (has mask i) (step_of step (value_at table lanes i))

-- any table
abbrev pub Any : Table → Type 0
Any table = Unit {0}
