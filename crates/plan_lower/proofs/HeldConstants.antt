-- Each literal of a program is a constant.
use Rattle.std.proofs.Common.{◌≡◌, ℕ, zero, suc, ◌+◌, List, [], ◌∷◌, Some, cond, subst}
use Rattle.std.specs.Prelude.{slice_get}
use Rattle.program_meaning.specs.Instructions.{Instr, makes_mask}
use Rattle.program_meaning.specs.Instructions as instr
use Rattle.program_meaning.specs.Programs.{IsInstruction, IsProgramFrom, IsProgram}
use Rattle.plan_lower.specs.Constants.{HasConstant}
use Rattle.plan_lower.proofs.Items.{some_is}

constant_of : (m v : ℕ) (x : Instr) → IsInstruction m v x → HasConstant x
constant_of m v (instr.const k c) h = h.1
constant_of m v instr.all h = tt
constant_of m v (instr.holding k a) h = tt
constant_of m v (instr.minus k l) h = tt
constant_of m v (instr.root k) h = tt
constant_of m v (instr.field k a n) h = tt
constant_of m v (instr.at k a i) h = tt
constant_of m v (instr.bin k o a b) h = tt
constant_of m v (instr.neg k a) h = tt
constant_of m v (instr.not k a) h = tt
constant_of m v (instr.is k w a) h = tt
constant_of m v (instr.first k a b) h = tt
constant_of m v (instr.merge k p a b) h = tt
constant_of m v (instr.matching k w a s) h = tt
constant_of m v (instr.cast k to a) h = tt
constant_of m v (instr.length k f a) h = tt
constant_of m v (instr.unix k f a) h = tt
constant_of m v (instr.trunc k p a) h = tt
constant_of m v (instr.extract k p a) h = tt
constant_of m v (instr.shift k p n a) h = tt

constant_from : (m v : ℕ) (xs : List Instr) (k : ℕ) (x : Instr) → slice_get xs k ≡ Some x → IsProgramFrom m v xs → HasConstant x
constant_from m v [] k x h p = cc
constant_from m v (y ∷ xs) zero x h p = subst HasConstant (some_is y x h) (constant_of m v y p.0)
constant_from m v (y ∷ xs) (suc k) x h p = constant_from (cond (makes_mask y) (m + 1) m) (cond (makes_mask y) v (v + 1)) xs k x h p.1

pub constant_at : (xs : List Instr) (k : ℕ) (x : Instr) → slice_get xs k ≡ Some x → IsProgram xs → HasConstant x
constant_at xs k x h p = constant_from 0 0 xs k x h p
