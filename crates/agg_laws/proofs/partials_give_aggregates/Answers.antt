use Rattle.std.proofs.Common.{◌∙◌, ap}
use Rattle.agg_meaning.specs.Partials.{finished}
use Rattle.agg_meaning.proofs.Partials.{partial_value}
use Rattle.agg_laws.proofs.partials_give_aggregates.Goals as goal

pub returns : goal.returns
returns c n s vs stands = ap (finished n) stands ∙ partial_value n vs
