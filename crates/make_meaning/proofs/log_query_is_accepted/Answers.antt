use Rattle.make_meaning.proofs.Accepted.{log_query_is_accepted}
use Rattle.make_meaning.proofs.log_query_is_accepted.Goals as goal

pub returns : goal.returns
returns c = log_query_is_accepted
