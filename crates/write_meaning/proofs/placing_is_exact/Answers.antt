use Rattle.write_meaning.proofs.Placing.{placing_is_exact}
use Rattle.write_meaning.proofs.placing_is_exact.Goals as goal

pub returns : goal.returns
returns c = placing_is_exact
