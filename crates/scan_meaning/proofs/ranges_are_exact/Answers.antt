use Rattle.scan_meaning.proofs.Exact.{ranges_exact}
use Rattle.scan_meaning.proofs.ranges_are_exact.Goals as goal

pub returns : goal.returns
returns c = ranges_exact
