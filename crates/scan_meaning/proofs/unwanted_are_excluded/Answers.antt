use Rattle.scan_meaning.proofs.Exact.{unwanted_excluded}
use Rattle.scan_meaning.proofs.unwanted_are_excluded.Goals as goal

pub returns : goal.returns
returns c = unwanted_excluded
