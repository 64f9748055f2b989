-- Instructions whose literal, if they have one, is a constant.
use Rattle.program_meaning.specs.Instructions.{Instr}
use Rattle.program_meaning.specs.Instructions as instr
use Rattle.program_meaning.specs.Programs.{IsConstant}

abbrev pub HasConstant : Instr → Type 0
HasConstant (instr.const m v) = IsConstant v
HasConstant x = Unit {0}
