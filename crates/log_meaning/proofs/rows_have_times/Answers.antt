use Rattle.log_meaning.proofs.Rows.{rows_have_times}
use Rattle.log_meaning.proofs.rows_have_times.Goals as goal

pub returns : goal.returns
returns c = rows_have_times
