-- The places of a query, from one kind of place on, and what is asked at them.
use Rattle.std.specs.Prelude.{◌≤◌, Bool, List, ◌++◌, map, length}
use Rattle.tree_meaning.specs.Tree.{Ex, Query}
use Rattle.check_meaning.specs.Limit.{most}
use Rattle.check_meaning.specs.Limit as limit
use Rattle.check_meaning.specs.Place.{Place, where_test, group_key, having, order_key}
use Rattle.check_meaning.specs.Places.{counted, alone, output_exs, order_ex}
use Rattle.check_meaning.specs.Aggregates.{asks_a_group}
use Rattle.check_meaning.specs.Tests.{has_long_path, is_nested, is_not_grouped, is_over_groups}
use Rattle.query_check.specs.declared.places.Rule.{Rule}
use Rattle.query_check.specs.declared.places.Rule.TheVariants as rule

unfoldable pub order_places : Query → List (Place × Ex)
order_places q = counted order_key (map (λ k. order_ex q.outs k.0) q.order)

unfoldable pub having_places : Query → List (Place × Ex)
having_places q = alone having q.having ++ order_places q

unfoldable pub key_places : Query → List (Place × Ex)
key_places q = counted group_key q.keys ++ having_places q

unfoldable pub where_places : Query → List (Place × Ex)
where_places q = alone where_test q.filter ++ key_places q

-- outputs and keys are within their limits
pub record IsWithin (q : Query) : Type 0 where
  pub outputs : length (output_exs q.outs) ≤ most limit.outputs
  pub keys : length q.keys ≤ most limit.group_keys
  pub order : length q.order ≤ most limit.order_keys

abbrev pub test_of : Rule → List Ex → Place × Ex → Bool
test_of rule.Steps keys = has_long_path
test_of rule.Nested keys = is_nested
test_of rule.Grouping keys = asks_a_group
test_of rule.NotGrouped keys = is_not_grouped keys
test_of rule.OverGroups keys = is_over_groups keys
