use Rattle.std.proofs.Common.{ap}
use Rattle.tree_meaning.specs.declared.AggName.TheVariants as aggs
use Rattle.agg_meaning.specs.Partials.{best_number}
use Rattle.agg_laws.proofs.Adding.{merged}
use Rattle.agg_laws.proofs.min_part.MinPartPartial.merge.Goals as goal

pub returns-clause-stands : goal.returns-clause-stands
returns-clause-stands c = merged aggs.Min _ _ _ (ap best_number c.lesser-self.ensures)
