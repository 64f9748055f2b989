use Rattle.std.proofs.Common.{ap}
use Rattle.tree_meaning.specs.declared.AggName.TheVariants as aggs
use Rattle.agg_meaning.specs.Partials.{best_time}
use Rattle.agg_laws.proofs.Adding.{merged}
use Rattle.agg_laws.proofs.earliest_part.EarliestPartPartial.merge.Goals as goal

pub returns-clause-stands : goal.returns-clause-stands
returns-clause-stands c = merged aggs.Earliest _ _ _ (ap best_time c.lesser-self.ensures)
