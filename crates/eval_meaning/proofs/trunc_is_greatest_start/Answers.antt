use Rattle.eval_meaning.proofs.Truncation.{trunc_is}
use Rattle.eval_meaning.proofs.trunc_is_greatest_start.Goals as goal

pub returns : goal.returns
returns c = trunc_is
