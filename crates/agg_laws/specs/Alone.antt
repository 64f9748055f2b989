-- The partial aggregate of one value, from what is shown of it.
use Rattle.std.specs.Prelude.{ℕ, ℤ, pos, Bool, true, false, Option, None, Some}
use Rattle.tree_meaning.specs.declared.AggName.{AggName}
use Rattle.tree_meaning.specs.declared.AggName.TheVariants as aggs
use Rattle.agg_meaning.specs.Partials.{Partial, counted, summed, best_number, best_time, truth_so_far}
use Rattle.agg_laws.specs.declared.seen.Seen.{Seen}
use Rattle.agg_laws.specs.Shows.{shown_number, shown_time, shown_truth, shows_one}

abbrev pub one_if : Bool → ℕ
one_if true = 1
one_if false = 0

abbrev pub summed_alone : Option ℤ → Partial
summed_alone None = summed 0 (pos 0)
summed_alone (Some n) = summed 1 n

abbrev pub alone : AggName → Seen → Partial
alone aggs.CountAll item = counted 1
alone aggs.Count item = counted (one_if (shows_one item))
alone aggs.Sum item = summed_alone (shown_number item)
alone aggs.Avg item = summed_alone (shown_number item)
alone aggs.Min item = best_number (shown_number item)
alone aggs.Max item = best_number (shown_number item)
alone aggs.Earliest item = best_time (shown_time item)
alone aggs.Latest item = best_time (shown_time item)
alone aggs.BoolAnd item = truth_so_far (shown_truth item)
alone aggs.BoolOr item = truth_so_far (shown_truth item)
