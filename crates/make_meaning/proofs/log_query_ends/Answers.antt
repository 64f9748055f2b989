use Rattle.make_meaning.proofs.GoodFiles.{log_query_ends}
use Rattle.make_meaning.proofs.log_query_ends.Goals as goal

pub returns : goal.returns
returns c = log_query_ends
