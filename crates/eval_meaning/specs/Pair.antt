-- What an expression is evaluated on: a row, and an item beside it.
use Rattle.std.specs.Prelude.{ℕ, zero, suc}
use Rattle.value_meaning.specs.Val.{Val, missing}

-- the value of each source of a query: its row, and the item of a second source
pub record Pair : Type 0 where
  pub row : Val
  pub item : Val

-- a row of a query with one source
abbrev pub alone : Val → Pair
alone v = record { row = v; item = missing }

-- where a path begins, by the number of its source
abbrev pub source_of : ℕ → Pair → Val
source_of zero pair = pair.row
source_of (suc n) pair = pair.item
