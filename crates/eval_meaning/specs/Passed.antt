-- The pairs that WHERE keeps.
use Rattle.std.specs.Prelude.{Bool, true, List, map, Option, None, Some}
use Rattle.std.specs.List.{filter}
use Rattle.value_meaning.specs.Val.{Val}
use Rattle.tree_meaning.specs.Tree.{Ex, Query}
use Rattle.eval_meaning.specs.Logic.{is_true}
use Rattle.eval_meaning.specs.Pair.{Pair, alone}
use Rattle.eval_meaning.specs.Evaluation.{eval}

-- whether a condition keeps a pair: where it is true, and where there is none
abbrev pub is_kept : Option Ex → Pair → Bool
is_kept None pair = true
is_kept (Some e) pair = is_true (eval e pair)

-- the pairs of rows: a query has one source, so each row is alone
abbrev pub pairs : Query → List Val → List Pair
pairs query rows = map alone rows

-- the pairs that WHERE keeps, in order
abbrev pub passed : Query → List Val → List Pair
passed query rows = filter (is_kept query.filter) (pairs query rows)
