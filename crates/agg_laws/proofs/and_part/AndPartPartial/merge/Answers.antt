use Rattle.std.proofs.Common.{ap}
use Rattle.tree_meaning.specs.declared.AggName.TheVariants as aggs
use Rattle.agg_meaning.specs.Partials.{truth_so_far}
use Rattle.agg_laws.proofs.Adding.{merged}
use Rattle.agg_laws.proofs.and_part.AndPartPartial.merge.Goals as goal

pub returns-clause-stands : goal.returns-clause-stands
returns-clause-stands c = merged aggs.BoolAnd _ _ _ (ap truth_so_far c.both_of-self.ensures)
