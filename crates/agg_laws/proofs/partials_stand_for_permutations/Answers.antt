use Rattle.std.proofs.Common.{◌∙◌, sym}
use Rattle.agg_meaning.proofs.Partials.{partial_shuffled}
use Rattle.agg_laws.proofs.partials_stand_for_permutations.Goals as goal

pub returns : goal.returns
returns c n s vs ws stands p = stands ∙ sym (partial_shuffled n vs ws p)
