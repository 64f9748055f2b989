-- What has to be kept of a list of values to go on with an aggregate over it: a partial aggregate.
use Rattle.std.specs.Prelude.{◌≡◌, ℕ, zero, suc, ◌+◌, ℤ, pos, ◌+ℤ◌, int_div, List, length, filter, Option, Bool}
use Rattle.std.specs.List.{reduce}
use Rattle.std.specs.Int.{int_min, int_max}
use Rattle.value_meaning.specs.Val.{Val, null, int}
use Rattle.tree_meaning.specs.declared.AggName.{AggName}
use Rattle.tree_meaning.specs.declared.AggName.TheVariants as aggs
use Rattle.eval_meaning.specs.LogicLaws.{is_present}
use Rattle.agg_meaning.specs.Operands.{numbers, times, truths}
use Rattle.agg_meaning.specs.Better.{better}
use Rattle.agg_meaning.specs.Aggregates.{total, both, either, number_or_null, time_or_null, truth_or_null}

-- a count; a count and a sum; the best number, time or truth value so far, if there was any
pub data Partial : Type 0 where
  counted : ℕ → Partial
  summed : ℕ → ℤ → Partial
  best_number : Option ℤ → Partial
  best_time : Option ℤ → Partial
  truth_so_far : Option Bool → Partial

abbrev pub partial_of : AggName → List Val → Partial
partial_of aggs.CountAll vs = counted (length vs)
partial_of aggs.Count vs = counted (length (filter is_present vs))
partial_of aggs.Sum vs = summed (length (numbers vs)) (total (numbers vs))
partial_of aggs.Avg vs = summed (length (numbers vs)) (total (numbers vs))
partial_of aggs.Min vs = best_number (reduce int_min (numbers vs))
partial_of aggs.Max vs = best_number (reduce int_max (numbers vs))
partial_of aggs.Earliest vs = best_time (reduce int_min (times vs))
partial_of aggs.Latest vs = best_time (reduce int_max (times vs))
partial_of aggs.BoolAnd vs = truth_so_far (reduce both (truths vs))
partial_of aggs.BoolOr vs = truth_so_far (reduce either (truths vs))

-- the partial aggregate of a list that is made of two; of two forms that don't belong together, the first
abbrev pub joined : AggName → Partial → Partial → Partial
joined n (counted a) (counted b) = counted (a + b)
joined n (summed c s) (summed d t) = summed (c + d) (s +ℤ t)
joined aggs.Max (best_number a) (best_number b) = best_number (better int_max a b)
joined n (best_number a) (best_number b) = best_number (better int_min a b)
joined aggs.Latest (best_time a) (best_time b) = best_time (better int_max a b)
joined n (best_time a) (best_time b) = best_time (better int_min a b)
joined aggs.BoolOr (truth_so_far a) (truth_so_far b) = truth_so_far (better either a b)
joined n (truth_so_far a) (truth_so_far b) = truth_so_far (better both a b)
joined n s t = s

-- the partial aggregate stands for the list
abbrev pub StandsFor : AggName → Partial → List Val → Type 0
StandsFor n s vs = s ≡ partial_of n vs

-- the value of the aggregate, from its partial
abbrev pub average : ℕ → ℤ → Val
average zero sum = null
average (suc n) sum = int (int_div sum (pos (suc n)))

abbrev pub sum_so_far : ℕ → ℤ → Val
sum_so_far zero sum = null
sum_so_far (suc n) sum = int sum

abbrev pub finished : AggName → Partial → Val
finished n (counted c) = int (pos c)
finished aggs.Avg (summed c s) = average c s
finished n (summed c s) = sum_so_far c s
finished n (best_number b) = number_or_null b
finished n (best_time b) = time_or_null b
finished n (truth_so_far b) = truth_or_null b
