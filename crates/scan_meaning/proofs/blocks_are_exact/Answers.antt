use Rattle.scan_meaning.proofs.Exact.{blocks_exact}
use Rattle.scan_meaning.proofs.blocks_are_exact.Goals as goal

pub returns : goal.returns
returns c = blocks_exact
