-- The partials of all aggregates, by their aggregate and what they keep.
use Rattle.tree_meaning.specs.declared.AggName.{AggName}
use Rattle.tree_meaning.specs.declared.AggName.TheVariants as aggs
use Rattle.agg_meaning.specs.Partials.{Partial, counted, summed, best_number, best_time, truth_so_far}
use Rattle.agg_laws.specs.declared.any_part.AnyPart.{AnyPart}
use Rattle.agg_laws.specs.declared.any_part.AnyPart.TheVariants as of

abbrev pub part_name : AnyPart → AggName
part_name (of.CountAll n) = aggs.CountAll
part_name (of.Count p) = aggs.Count
part_name (of.Sum p) = aggs.Sum
part_name (of.Min p) = aggs.Min
part_name (of.Max p) = aggs.Max
part_name (of.Avg p) = aggs.Avg
part_name (of.Earliest p) = aggs.Earliest
part_name (of.Latest p) = aggs.Latest
part_name (of.BoolAnd p) = aggs.BoolAnd
part_name (of.BoolOr p) = aggs.BoolOr

abbrev pub part_kept : AnyPart → Partial
part_kept (of.CountAll n) = counted n
part_kept (of.Count p) = counted p.count
part_kept (of.Sum p) = summed p.sums.count p.sums.sum
part_kept (of.Min p) = best_number p.best
part_kept (of.Max p) = best_number p.best
part_kept (of.Avg p) = summed p.sums.count p.sums.sum
part_kept (of.Earliest p) = best_time p.best
part_kept (of.Latest p) = best_time p.best
part_kept (of.BoolAnd p) = truth_so_far p.best
part_kept (of.BoolOr p) = truth_so_far p.best
