-- What is left of the cells or pairs that are gone through one by one.
use Rattle.std.specs.Prelude.{◌≡◌, ℕ, ◌+◌, ◌≤◌, List, Option, IfSome}
use Rattle.std.specs.Iterator.{YieldsFirstBy}
use Rattle.value_meaning.specs.Val.{Val}
use Rattle.block_meaning.specs.Tables.{Table}
use Rattle.ion_cells.specs.declared.cell.Cell.{Cell}
use Rattle.ion_cells.specs.declared.iterators.Cells.{Cells}
use Rattle.ion_cells.specs.declared.iterators.Fields.{Fields}
use Rattle.ion_cells.specs.Standing.{HasLast}
use Rattle.ion_cells.specs.Left.{values_of, pairs_of, named}
use Rattle.ion_cells.specs.Shown.{cell_last, shown}

-- the last number of the tables under which they are cells
unfoldable pub items_last : Cells → ℕ
items_last s = s.last

-- the values of the cells that are left
unfoldable pub values_left : Table → Cells → List Val
values_left table s = values_of table s.rest.now

-- The first of the cells that were left was given, if there was one.
pub record GivesCells (s : Cells) (r : Option Cell) (t : Cells) : Type 0 where
  pub last : items_last t ≡ items_last s
  pub item : IfSome r (λ c. cell_last c ≡ items_last s)
  pub yields : (table : Table) → HasLast table (items_last s) → YieldsFirstBy (shown table) (values_left table) s r t

-- the last number of the tables under which they are pairs
unfoldable pub fields_last : Fields → ℕ
fields_last s = s.last

-- the labels that are left are at least this
unfoldable pub fields_low : Fields → ℕ
fields_low s = s.low

-- the names and values of the pairs that are left
unfoldable pub pairs_left : Table → Fields → List (List ℕ × Val)
pairs_left table s = pairs_of table s.low s.rest.now

-- the name and the value of a label and a cell
abbrev pub labelled : Table → ℕ × Cell → List ℕ × Val
labelled table p = named table p.0 (shown table p.1)

-- a pair whose label and cell fit the tables with this last number; the label is at least low
pub record IsField (last low : ℕ) (p : ℕ × Cell) : Type 0 where
  pub above : low ≤ p.0
  pub first : 10 ≤ p.0
  pub within : p.0 ≤ last
  pub cell : cell_last p.1 ≡ last

-- The first of the pairs that were left was given, if there was one. Labels rise.
pub record GivesFields (s : Fields) (r : Option (ℕ × Cell)) (t : Fields) : Type 0 where
  pub last : fields_last t ≡ fields_last s
  pub item : IfSome r (IsField (fields_last s) (fields_low s))
  pub rises : IfSome r (λ p. fields_low t ≡ p.0 + 1)
  pub yields : (table : Table) → HasLast table (fields_last s) → YieldsFirstBy (labelled table) (pairs_left table) s r t
