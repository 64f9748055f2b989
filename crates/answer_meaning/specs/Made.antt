-- Made rows: what a query makes of the rows that it is asked over, each with the values that it is sorted by.
use Rattle.std.specs.Prelude.{ℕ, List, [], map}
use Rattle.value_meaning.specs.Val.{Val, struct, pairs}

-- pairs of a name and a value, in the order in which they are written
abbrev pub Output : Type 0
Output = List (List ℕ × Val)

pub record Made : Type 0 where
  pub keys : List Val
  pub output : Output

-- the pairs of a row, which is a struct
abbrev pub pairs_of : Val → Output
pairs_of (struct fs) = pairs fs
pairs_of v = []

-- `SELECT *` with no sort keys makes of each row its own pairs
abbrev pub made_whole : Val → Made
made_whole row = record { keys = []; output = pairs_of row }

abbrev pub made_of_all : List Val → List Made
made_of_all rows = map made_whole rows
