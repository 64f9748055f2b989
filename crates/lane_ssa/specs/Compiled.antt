-- The pattern of an instruction that matches texts.
use Rattle.std.specs.Prelude.{List, map, Option, None, Some}
use Rattle.lane_text.specs.PatternValue.{PatternValue}
use Rattle.program_meaning.specs.Instructions.{Instr}
use Rattle.program_meaning.specs.Instructions as instr

-- other instructions have none
abbrev pub pattern_of : Instr → Option PatternValue
pattern_of (instr.matching m how a text) = Some (record { how = how; text = text })
pattern_of x = None

-- those of a program, one place for each instruction
abbrev pub patterns_of : List Instr → List (Option PatternValue)
patterns_of program = map pattern_of program
