use Rattle.program_meaning.proofs.Persist.{mask_stays, value_stays}
use Rattle.program_meaning.proofs.registers_stay.Goals as goal

pub returns : goal.returns
returns c l old new e = record { masks = λ m h. mask_stays l old new m e h; values = λ r h. value_stays l old new r e h }
