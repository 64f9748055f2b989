use Rattle.log_meaning.proofs.Rows.{rows_may_be_written}
use Rattle.log_meaning.proofs.rows_may_be_written.Goals as goal

pub returns : goal.returns
returns c = rows_may_be_written
