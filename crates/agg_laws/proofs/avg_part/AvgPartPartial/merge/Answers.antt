use Rattle.tree_meaning.specs.declared.AggName.TheVariants as aggs
use Rattle.agg_meaning.specs.Partials.{summed}
use Rattle.agg_laws.proofs.Adding.{room_for_two, merged}
use Rattle.agg_laws.proofs.avg_part.AvgPartPartial.merge.Goals as goal

pub plus-self-requires : goal.plus-self-requires
plus-self-requires c = room_for_two aggs.Avg _ _ c.requires

pub returns-clause-stands : goal.returns-clause-stands
returns-clause-stands c = merged aggs.Avg _ _ _ (λ i. summed (c.plus-self.ensures.count i) (c.plus-self.ensures.sum i))
