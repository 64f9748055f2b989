use Rattle.print_meaning.proofs.Again.{again}
use Rattle.print_meaning.proofs.printed_queries_are_read_again.Goals as goal

pub returns : goal.returns
returns c = again
