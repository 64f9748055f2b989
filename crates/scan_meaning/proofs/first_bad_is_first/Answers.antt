use Rattle.scan_meaning.proofs.Batches.{first_of_all}
use Rattle.scan_meaning.proofs.first_bad_is_first.Goals as goal

pub returns : goal.returns
returns c = first_of_all
