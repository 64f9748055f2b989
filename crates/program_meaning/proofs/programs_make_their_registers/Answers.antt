use Rattle.program_meaning.proofs.Programs.{length-masks, length-values}
use Rattle.program_meaning.proofs.programs_make_their_registers.Goals as goal

pub returns : goal.returns
returns c l xs = record { masks = length-masks l xs; values = length-values l xs }
