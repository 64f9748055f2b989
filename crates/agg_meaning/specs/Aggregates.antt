-- The value of an aggregate over a group, from the values that its operand has on the group's rows.
use Rattle.std.specs.Prelude.{ℤ, pos, ◌+ℤ◌, int_div, List, [], ◌∷◌, length, filter, Option, None, Some, Bool, ◌&&◌, ◌||◌}
use Rattle.std.specs.List.{reduce}
use Rattle.std.specs.Int.{int_min, int_max}
use Rattle.value_meaning.specs.Val.{Val, null, truth, int, time}
use Rattle.tree_meaning.specs.declared.AggName.{AggName}
use Rattle.tree_meaning.specs.declared.AggName.TheVariants as aggs
use Rattle.eval_meaning.specs.LogicLaws.{is_present}
use Rattle.agg_meaning.specs.Operands.{numbers, times, truths}

-- the sum of numbers, which is unbounded
abbrev pub total : List ℤ → ℤ
total [] = pos 0
total (n ∷ ns) = n +ℤ total ns

-- the sum, and the sum divided by the count, cut towards zero; NULL where there is no number
abbrev pub sum_of : List ℤ → Val
sum_of [] = null
sum_of (n ∷ ns) = int (total (n ∷ ns))

abbrev pub average_of : List ℤ → Val
average_of [] = null
average_of (n ∷ ns) = int (int_div (total (n ∷ ns)) (pos (length (n ∷ ns))))

-- NULL where there is none
abbrev pub number_or_null : Option ℤ → Val
number_or_null None = null
number_or_null (Some n) = int n

abbrev pub time_or_null : Option ℤ → Val
time_or_null None = null
time_or_null (Some t) = time t

abbrev pub truth_or_null : Option Bool → Val
truth_or_null None = null
truth_or_null (Some b) = truth b

abbrev pub both : Bool → Bool → Bool
both a b = a && b

abbrev pub either : Bool → Bool → Bool
either a b = a || b

-- COUNT(*) counts rows, COUNT those in which the operand is neither NULL nor MISSING. The others look at values of one
-- kind alone, and are NULL without any.
abbrev pub aggregate : AggName → List Val → Val
aggregate aggs.CountAll vs = int (pos (length vs))
aggregate aggs.Count vs = int (pos (length (filter is_present vs)))
aggregate aggs.Sum vs = sum_of (numbers vs)
aggregate aggs.Avg vs = average_of (numbers vs)
aggregate aggs.Min vs = number_or_null (reduce int_min (numbers vs))
aggregate aggs.Max vs = number_or_null (reduce int_max (numbers vs))
aggregate aggs.Earliest vs = time_or_null (reduce int_min (times vs))
aggregate aggs.Latest vs = time_or_null (reduce int_max (times vs))
aggregate aggs.BoolAnd vs = truth_or_null (reduce both (truths vs))
aggregate aggs.BoolOr vs = truth_or_null (reduce either (truths vs))
