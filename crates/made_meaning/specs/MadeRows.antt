-- The made rows of a query: one of each pair that WHERE keeps, or, where the query is grouped, one of each group that HAVING
-- keeps.
use Rattle.std.specs.Prelude.{ℕ, Bool, true, not, List, [], map, Option, None, Some, if◌then◌else◌}
use Rattle.std.specs.List.{filter, enumerate_from}
use Rattle.value_meaning.specs.Val.{Val}
use Rattle.tree_meaning.specs.Tree.{Ex, Outs, star, named, Query}
use Rattle.check_meaning.specs.Names.{output_name}
use Rattle.check_meaning.specs.Places.{order_ex}
use Rattle.check_meaning.specs.Aggregates.{is_grouped}
use Rattle.eval_meaning.specs.Logic.{is_missing, is_true}
use Rattle.eval_meaning.specs.Pair.{Pair}
use Rattle.eval_meaning.specs.Evaluation.{eval}
use Rattle.eval_meaning.specs.Passed.{passed}
use Rattle.answer_meaning.specs.Made.{Output, Made, pairs_of}
use Rattle.made_meaning.specs.OverGroups.{Group, groups, over}

-- the name and the value of output k
abbrev pub named_value : (Ex → Val) → ℕ × (Ex × Option (List ℕ)) → List ℕ × Val
named_value value o = (output_name o.0 o.1, value o.1.0)

abbrev pub has_value : List ℕ × Val → Bool
has_value o = not (is_missing o.1)

-- in the order of the outputs each name and its value, but no pair where the value is MISSING; `*` is the whole
abbrev pub output_by : (Ex → Val) → Output → Outs → Output
output_by value whole star = whole
output_by value whole (named items) = filter has_value (map (named_value value) (enumerate_from 1 items))

-- A made row, by the value of each expression. An order key that stands for an output has the output's value.
abbrev pub made_by : Query → (Ex → Val) → Output → Made
made_by q value whole =
    record {
      keys = map (λ k. value (order_ex q.outs k.0)) q.order;
      output = output_by value whole q.outs;
    }

-- the output of a pair: `*` is its row
abbrev pub output_of : Outs → Pair → Output
output_of outs p = output_by (λ e. eval e p) (pairs_of p.row) outs

abbrev pub made_row : Query → Pair → Made
made_row q p = made_by q (λ e. eval e p) (pairs_of p.row)

-- a group has no output for `*`
abbrev pub made_group : Query → Group → Made
made_group q g = made_by q (over q g) []

-- HAVING keeps the groups over which it is true, and without it all
abbrev pub has_true : Option Ex → (Ex → Val) → Bool
has_true None value = true
has_true (Some e) value = is_true (value e)

abbrev pub kept_groups : Query → List Group → List Group
kept_groups q gs = filter (λ g. has_true q.having (over q g)) gs

abbrev pub made_rows : Query → List Pair → List Made
made_rows q all = map (made_row q) all

abbrev pub made_groups : Query → List Pair → List Made
made_groups q all = map (made_group q) (kept_groups q (groups q.keys all))

unfoldable pub made : Query → List Val → List Made
made q rows = if is_grouped q then made_groups q (passed q rows) else made_rows q (passed q rows)
