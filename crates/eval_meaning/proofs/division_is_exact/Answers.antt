use Rattle.eval_meaning.proofs.Division.{is_divided}
use Rattle.eval_meaning.proofs.division_is_exact.Goals as goal

pub returns : goal.returns
returns c = is_divided
