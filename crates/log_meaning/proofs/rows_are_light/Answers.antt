use Rattle.log_meaning.proofs.Rows.{rows_are_light}
use Rattle.log_meaning.proofs.rows_are_light.Goals as goal

pub returns : goal.returns
returns c = rows_are_light
