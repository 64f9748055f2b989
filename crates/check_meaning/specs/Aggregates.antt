-- The aggregates of a query, and whether it is grouped.
use Rattle.std.specs.Prelude.{Bool, true, false, ◌||◌, ◌&&◌, List, [], ◌∷◌, ◌++◌, if◌then◌else◌, filter, fold, is_some, not, nat_lt, length}
use Rattle.std.specs.List.{list_any, flat_map}
use Rattle.tree_meaning.specs.Tree.{Ex, agg_of_rows, agg, Query}
use Rattle.check_meaning.specs.Same.{same_ex}
use Rattle.check_meaning.specs.Parts.{parts}
use Rattle.check_meaning.specs.Place.{Place, is_of_rows}
use Rattle.check_meaning.specs.Places.{places}

abbrev pub is_aggregate : Ex → Bool
is_aggregate (agg_of_rows n) = true
is_aggregate (agg n e) = true
is_aggregate e = false

-- the expression is equal to one of these
abbrev pub is_among : List Ex → Ex → Bool
is_among es e = list_any (same_ex e) es

-- the list with the expression at its end, unless it is there
abbrev pub with_new : List Ex → Ex → List Ex
with_new es e = if is_among es e then es else es ++ e ∷ []

-- without repeats, each where it stands first
abbrev pub distinct : List Ex → List Ex
distinct es = fold with_new [] es

-- the distinct aggregates, wherever they stand, in the order in which they stand first
unfoldable pub aggregates : Query → List Ex
aggregates q = distinct (filter is_aggregate (flat_map (λ x. parts x.1) (places q)))

abbrev pub has_aggregate : Ex → Bool
has_aggregate e = list_any is_aggregate (parts e)

-- an aggregate stands in an output, in HAVING or in an order key
abbrev pub asks_a_group : Place × Ex → Bool
asks_a_group x = not (is_of_rows x.0) && has_aggregate x.1

-- GROUP BY or HAVING stands, or an aggregate stands in an output, in HAVING or in an order key
unfoldable pub is_grouped : Query → Bool
is_grouped q = nat_lt 0 (length q.keys) || is_some q.having || list_any asks_a_group (places q)
