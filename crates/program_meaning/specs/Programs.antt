-- Programs: lists of instructions, each of which names registers that are made before it. Masks and values are numbered
-- apart, each in the order of making.
use Rattle.std.specs.Prelude.{◌≡◌, ℕ, ◌+◌, ◌<◌, Bool, true, false, not, cond, List, [], ◌∷◌, ◌++◌, count_by}
use Rattle.value_meaning.specs.Val.{Val, missing, null, truth, int, time, text, list, struct}
use Rattle.time_meaning.specs.Moments.{IsTime}
use Rattle.tree_meaning.specs.declared.Func.{Func}
use Rattle.tree_meaning.specs.declared.Func.TheVariants as func
use Rattle.tree_meaning.specs.Parts.{is_cut_to, is_extracted, is_added}
use Rattle.eval_meaning.specs.Numbers.{fits}
use Rattle.program_meaning.specs.Instructions.{Instr, makes_mask}
use Rattle.program_meaning.specs.Instructions as instr

abbrev pub makes_value : Instr → Bool
makes_value x = not (makes_mask x)

abbrev pub mask_count : List Instr → ℕ
mask_count xs = count_by makes_mask xs

abbrev pub value_count : List Instr → ℕ
value_count xs = count_by makes_value xs

-- a constant: no list and no struct, a number and a time in their ranges
abbrev pub IsConstant : Val → Type 0
IsConstant missing = Unit {0}
IsConstant null = Unit {0}
IsConstant (truth b) = Unit {0}
IsConstant (int n) = fits n ≡ true
IsConstant (time t) = IsTime t
IsConstant (text s) = Unit {0}
IsConstant (list vs) = ⊥
IsConstant (struct fs) = ⊥

-- the functions of a text's length, and of a time's count since 1970
abbrev pub is_length : Func → Bool
is_length func.CharLength = true
is_length f = false

abbrev pub is_unix : Func → Bool
is_unix func.UnixEpoch = true
is_unix func.UnixMicro = true
is_unix f = false

-- The registers that an instruction names are among the first m masks and v values; a constant is one, and a function
-- takes its part of a time.
abbrev pub IsInstruction : ℕ → ℕ → Instr → Type 0
IsInstruction m v instr.all = Unit {0}
IsInstruction m v (instr.holding k a) = (k < m) × (a < v)
IsInstruction m v (instr.minus k l) = (k < m) × (l < m)
IsInstruction m v (instr.root k) = k < m
IsInstruction m v (instr.field k a n) = (k < m) × (a < v)
IsInstruction m v (instr.at k a i) = (k < m) × (a < v)
IsInstruction m v (instr.const k c) = (k < m) × IsConstant c
IsInstruction m v (instr.bin k o a b) = (k < m) × (a < v) × (b < v)
IsInstruction m v (instr.neg k a) = (k < m) × (a < v)
IsInstruction m v (instr.not k a) = (k < m) × (a < v)
IsInstruction m v (instr.is k w a) = (k < m) × (a < v)
IsInstruction m v (instr.first k a b) = (k < m) × (a < v) × (b < v)
IsInstruction m v (instr.merge k p a b) = (k < m) × (p < m) × (a < v) × (b < v)
IsInstruction m v (instr.matching k h a s) = (k < m) × (a < v)
IsInstruction m v (instr.cast k to a) = (k < m) × (a < v)
IsInstruction m v (instr.length k f a) = (k < m) × (a < v) × (is_length f ≡ true)
IsInstruction m v (instr.unix k f a) = (k < m) × (a < v) × (is_unix f ≡ true)
IsInstruction m v (instr.trunc k p a) = (k < m) × (a < v) × (is_cut_to p ≡ true)
IsInstruction m v (instr.extract k p a) = (k < m) × (a < v) × (is_extracted p ≡ true)
IsInstruction m v (instr.shift k p n a) = (k < m) × (n < v) × (a < v) × (is_added p ≡ true)

-- each instruction names earlier registers, after m masks and v values
abbrev pub IsProgramFrom : ℕ → ℕ → List Instr → Type 0
IsProgramFrom m v [] = Unit {0}
IsProgramFrom m v (x ∷ xs) =
    IsInstruction m v x × IsProgramFrom (cond (makes_mask x) (m + 1) m) (cond (makes_mask x) v (v + 1)) xs

abbrev pub IsProgram : List Instr → Type 0
IsProgram xs = IsProgramFrom 0 0 xs

-- the number of the register that an instruction makes after xs
abbrev pub number_after : List Instr → Instr → ℕ
number_after xs x = cond (makes_mask x) (mask_count xs) (value_count xs)

-- the second program begins with the first
pub record Extends (old new : List Instr) : Type 0 where
  pub code : List Instr
  pub is : new ≡ old ++ code
