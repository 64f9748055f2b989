use Rattle.block_meaning.proofs.BlockReading.{blocks_read}
use Rattle.block_meaning.proofs.blocks_are_read.Goals as goal

pub returns : goal.returns
returns c = blocks_read
