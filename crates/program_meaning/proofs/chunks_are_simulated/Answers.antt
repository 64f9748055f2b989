use Rattle.program_meaning.proofs.Chunks.{chunks_simulated}
use Rattle.program_meaning.proofs.chunks_are_simulated.Goals as goal

pub returns : goal.returns
returns c = chunks_simulated
