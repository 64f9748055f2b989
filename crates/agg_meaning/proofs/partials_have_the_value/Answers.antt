use Rattle.agg_meaning.proofs.Partials.{partial_value}
use Rattle.agg_meaning.proofs.partials_have_the_value.Goals as goal

pub returns : goal.returns
returns c = partial_value
