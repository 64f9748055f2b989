-- What an instruction that makes a value is computed from: the mask in whose lanes it works, and its operands.
use Rattle.std.specs.Prelude.{◌≡◌, ℕ, Bool, true, false}
use Rattle.value_meaning.specs.Val.{Val, missing}
use Rattle.tree_meaning.specs.Parts.{is_cut_to, is_extracted, is_added}
use Rattle.eval_meaning.specs.Logic.{not_of, is_of, first_of}
use Rattle.eval_meaning.specs.Numbers.{negative}
use Rattle.eval_meaning.specs.Casts.{cast_of}
use Rattle.eval_meaning.specs.Matching.{matching_of}
use Rattle.eval_meaning.specs.Times.{trunc_of, extract_of, shift_of}
use Rattle.eval_meaning.specs.Evaluation.{binary}
use Rattle.program_meaning.specs.Instructions.{Instr}
use Rattle.program_meaning.specs.Instructions as instr
use Rattle.program_meaning.specs.Programs.{is_length, is_unix}
use Rattle.program_meaning.specs.Registers.{function_of}

-- the mask in whose lanes it works
abbrev pub mask_number : Instr → ℕ
mask_number instr.all = 0
mask_number (instr.holding m a) = m
mask_number (instr.minus m k) = m
mask_number (instr.root m) = m
mask_number (instr.field m a n) = m
mask_number (instr.at m a i) = m
mask_number (instr.const m v) = m
mask_number (instr.bin m op a b) = m
mask_number (instr.neg m a) = m
mask_number (instr.not m a) = m
mask_number (instr.is m what a) = m
mask_number (instr.first m a b) = m
mask_number (instr.merge m k a b) = m
mask_number (instr.matching m how a pattern) = m
mask_number (instr.cast m to a) = m
mask_number (instr.length m f a) = m
mask_number (instr.unix m f a) = m
mask_number (instr.trunc m part a) = m
mask_number (instr.extract m part a) = m
mask_number (instr.shift m part count a) = m

-- the value of an instruction that takes one, or the first of two
abbrev pub operand_number : Instr → ℕ
operand_number (instr.bin m op a b) = a
operand_number (instr.neg m a) = a
operand_number (instr.not m a) = a
operand_number (instr.is m what a) = a
operand_number (instr.first m a b) = a
operand_number (instr.matching m how a pattern) = a
operand_number (instr.cast m to a) = a
operand_number (instr.length m f a) = a
operand_number (instr.unix m f a) = a
operand_number (instr.trunc m part a) = a
operand_number (instr.extract m part a) = a
operand_number (instr.shift m part count a) = count
operand_number x = 0

-- the second of two
abbrev pub second_number : Instr → ℕ
second_number (instr.bin m op a b) = b
second_number (instr.first m a b) = b
second_number (instr.shift m part count a) = a
second_number x = 0

-- whether it is a function of one value
abbrev pub takes_one : Instr → Bool
takes_one (instr.neg m a) = true
takes_one (instr.not m a) = true
takes_one (instr.is m what a) = true
takes_one (instr.matching m how a pattern) = true
takes_one (instr.cast m to a) = true
takes_one (instr.length m f a) = true
takes_one (instr.unix m f a) = true
takes_one (instr.trunc m part a) = true
takes_one (instr.extract m part a) = true
takes_one x = false

-- that function
abbrev pub one_of : Instr → Val → Val
one_of (instr.neg m a) = negative
one_of (instr.not m a) = not_of
one_of (instr.is m what a) = is_of what
one_of (instr.matching m how a pattern) = matching_of how pattern
one_of (instr.cast m to a) = cast_of to
one_of (instr.length m f a) = function_of f
one_of (instr.unix m f a) = function_of f
one_of (instr.trunc m part a) = trunc_of part
one_of (instr.extract m part a) = extract_of part
one_of x = λ v. missing

-- whether it is a function of two values
abbrev pub takes_two : Instr → Bool
takes_two (instr.bin m op a b) = true
takes_two (instr.first m a b) = true
takes_two (instr.shift m part count a) = true
takes_two x = false

-- that function
abbrev pub two_of : Instr → Val → Val → Val
two_of (instr.bin m op a b) = binary op
two_of (instr.first m a b) = first_of
two_of (instr.shift m part count a) = shift_of part
two_of x = λ v w. missing

-- It names a function or a part of a time that it takes.
abbrev pub NamesItsPart : Instr → Type 0
NamesItsPart (instr.length m f a) = is_length f ≡ true
NamesItsPart (instr.unix m f a) = is_unix f ≡ true
NamesItsPart (instr.trunc m part a) = is_cut_to part ≡ true
NamesItsPart (instr.extract m part a) = is_extracted part ≡ true
NamesItsPart (instr.shift m part count a) = is_added part ≡ true
NamesItsPart x = Unit {0}
