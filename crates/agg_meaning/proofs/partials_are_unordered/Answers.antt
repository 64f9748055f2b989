use Rattle.agg_meaning.proofs.Partials.{partial_shuffled}
use Rattle.agg_meaning.proofs.partials_are_unordered.Goals as goal

pub returns : goal.returns
returns c = partial_shuffled
