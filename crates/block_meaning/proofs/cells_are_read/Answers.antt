use Rattle.block_meaning.proofs.NestedReading.{cells_read}
use Rattle.block_meaning.proofs.cells_are_read.Goals as goal

pub returns : goal.returns
returns c = cells_read
