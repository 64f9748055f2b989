use Rattle.block_meaning.proofs.BlockReading.{rows_sound}
use Rattle.block_meaning.proofs.rows_are_sound.Goals as goal

pub returns : goal.returns
returns c = rows_sound
