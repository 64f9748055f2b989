use Rattle.print_meaning.proofs.Moments.{time_again}
use Rattle.print_meaning.proofs.printed_times_are_read.Goals as goal

pub returns : goal.returns
returns c = time_again
