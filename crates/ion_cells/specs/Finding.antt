-- What is found among the pairs of a struct by a label.
use Rattle.std.specs.Prelude.{◌≡◌, ◌≤◌, ℕ, List, ◌∷◌, ◌++◌, Option, Some, IfSome}
use Rattle.std.specs.Option.{option_map, option_and_then}
use Rattle.value_meaning.specs.Val.{Val}
use Rattle.value_meaning.specs.Pairs.{value_of}
use Rattle.block_meaning.specs.Numbers.{var_uint}
use Rattle.block_meaning.specs.Tables.{Table, text_of}
use Rattle.ion_cells.specs.declared.cell.Cell.{Cell}
use Rattle.ion_cells.specs.Left.{named, behind_cell}
use Rattle.ion_cells.specs.Shown.{cell_last, shown}
use Rattle.ion_cells.specs.Standing.{HasLast}

-- the name has no number but this one, which is its number unless it is below 10, where no number has a text
pub record IsLabelOf (table : Table) (name : List ℕ) (label : ℕ) : Type 0 where
  pub only : (k : ℕ) → text_of table k ≡ Some name → k ≡ label
  pub is : 10 ≤ label → text_of table label ≡ Some name

-- the pair stands in the list
pub record StandsIn (pair : List ℕ × Val) (pairs : List (List ℕ × Val)) : Type 0 where
  pub before : List (List ℕ × Val)
  pub after : List (List ℕ × Val)
  pub split : pairs ≡ before ++ pair ∷ after

-- The cell of the pair with that label, if there is one, among pairs under the tables with this last number.
pub record FindsPair (last : ℕ) (pairs : Table → List (List ℕ × Val)) (label : ℕ) (r : Option Cell) : Type 0 where
  pub fits : IfSome r (λ cell. cell_last cell ≡ last)
  pub stands : (table : Table) → HasLast table last → IfSome r (λ cell. StandsIn (named table label (shown table cell)) (pairs table))
  pub value : (table : Table) → HasLast table last → (name : List ℕ) → IsLabelOf table name label
      → option_map (shown table) r ≡ value_of name (pairs table)

-- the label of the first pair, its cell and what follows it, and what follows the pair, by its first bytes alone
unfoldable pub pair_front : List ℕ → Option (ℕ × List ℕ × List ℕ)
pair_front bytes = option_and_then (λ l. option_map (λ rest. (l.0, l.1, rest)) (behind_cell l.1)) (var_uint bytes)
