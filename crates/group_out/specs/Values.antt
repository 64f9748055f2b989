-- The value of an expression over a group, by the row of the group, and what the query makes of that row.
use Rattle.std.specs.Prelude.{ℕ, List, [], ◌∷◌, flat_map, Option, Some, None, if◌then◌else◌}
use Rattle.std.specs.Option.{option_or}
use Rattle.value_meaning.specs.Val.{Val}
use Rattle.tree_meaning.specs.Tree.{Ex, Query}
use Rattle.check_meaning.specs.Aggregates.{aggregates}
use Rattle.made_meaning.specs.OverGroups.{value_beside, value_by}
use Rattle.made_meaning.specs.MadeRows.{has_true, made_by}
use Rattle.group_out.specs.Rows.{keyed}

-- the value beside an expression that is a key, else beside one that is an aggregate
abbrev pub known_of_row : Query → List Val × List Val → Ex → Option Val
known_of_row q row e = option_or (value_beside q.keys row.0 e) (value_beside (aggregates q) row.1 e)

unfoldable pub value_of_row : Query → List Val × List Val → Ex → Val
value_of_row q row e = value_by (known_of_row q row) e

-- the sort keys and the line of a row whose HAVING is true
abbrev pub made_of_row : Query → List Val × List Val → Option (List Val × List ℕ)
made_of_row q row =
    if has_true q.having (value_of_row q row) then Some (keyed (made_by q (value_of_row q row) [])) else None

-- the row, if there is one
abbrev pub listed : Option (List Val × List ℕ) → List (List Val × List ℕ)
listed None = []
listed (Some r) = r ∷ []

-- what the query makes of rows, in order
abbrev pub made_of_rows : Query → List (List Val × List Val) → List (List Val × List ℕ)
made_of_rows q rows = flat_map (λ r. listed (made_of_row q r)) rows
