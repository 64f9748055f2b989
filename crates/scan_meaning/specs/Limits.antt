-- The limit on the groups of a query.
use Rattle.std.specs.Prelude.{ℕ, Bool, ◌&&◌, nat_lt, List, length, map}
use Rattle.value_meaning.specs.Val.{Val}
use Rattle.tree_meaning.specs.Tree.{Query}
use Rattle.check_meaning.specs.Aggregates.{is_grouped}
use Rattle.agg_meaning.specs.Keys.{distinct_keys}
use Rattle.eval_meaning.specs.Passed.{passed}
use Rattle.made_meaning.specs.OverGroups.{values_on}

-- the distinct lists of the keys' values on the pairs that pass
abbrev pub key_lists : Query → List Val → List (List Val)
key_lists q rows = distinct_keys (map (values_on q.keys) (passed q rows))

-- the query is grouped, and there are more of them than the limit
unfoldable pub is_over : Query → ℕ → List Val → Bool
is_over q limit rows = is_grouped q && nat_lt limit (length (key_lists q rows))
