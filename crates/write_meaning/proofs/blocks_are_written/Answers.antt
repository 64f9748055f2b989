use Rattle.write_meaning.proofs.Blocks.{blocks_are_written}
use Rattle.write_meaning.proofs.blocks_are_written.Goals as goal

pub returns : goal.returns
returns c = blocks_are_written
