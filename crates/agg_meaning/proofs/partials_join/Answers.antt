use Rattle.agg_meaning.proofs.Partials.{partial_joined}
use Rattle.agg_meaning.proofs.partials_join.Goals as goal

pub returns : goal.returns
returns c = partial_joined
