use Rattle.check_meaning.proofs.OperandParts.{parts_are}
use Rattle.check_meaning.proofs.parts_are_by_operands.Goals as goal

pub returns : goal.returns
returns c t e = parts_are t e
