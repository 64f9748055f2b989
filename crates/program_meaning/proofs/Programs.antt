-- How many registers a program makes, and which its instructions name.
use Rattle.std.proofs.Common.{◌≡◌, ℕ, suc, zero, ◌+◌, ◌<◌, refl, ap, sym, subst, ◌∙◌, arith, Bool, true, false, cond, not, List, [], ◌∷◌, ◌++◌, length, take, slice_index_or, length-append, length-take, add-zero}
use Rattle.std.specs.Prelude.{fold}
use Rattle.std.proofs.lemmas.List.Sums.{count_by-le-length, sum_by-cons, sum_by_push}
use Rattle.value_meaning.specs.Val.{Val}
use Rattle.program_meaning.specs.Instructions.{Instr, makes_mask}
use Rattle.program_meaning.specs.Instructions as instr
use Rattle.program_meaning.specs.Programs.{makes_value, mask_count, value_count, IsInstruction, IsProgramFrom, IsProgram}
use Rattle.program_meaning.specs.Registers.{Lane, State, new_mask, new_value, with_made, step, empty, after}

-- how long the lists of registers are after an instruction
record Grown (s s' : State) (x : Instr) : Type 0 where
  masks : length s'.masks ≡ length s.masks + cond (makes_mask x) 1 0
  values : length s'.values ≡ length s.values + cond (makes_value x) 1 0

grown_mask : (s : State) (b : Bool) (x : Instr) → makes_mask x ≡ true → Grown s (with_made s (new_mask b)) x
grown_mask s b x e = record { masks = rw e (length-append s.masks (b ∷ [])); values = rw e (sym (add-zero (length s.values))) }

grown_value : (s : State) (v : Val) (x : Instr) → makes_mask x ≡ false → Grown s (with_made s (new_value v)) x
grown_value s v x e = record { masks = rw e (sym (add-zero (length s.masks))); values = rw e (length-append s.values (v ∷ [])) }

grown : (l : Lane) (s : State) (x : Instr) → Grown s (step l s x) x
grown l s instr.all = grown_mask s _ instr.all refl
grown l s (instr.holding m a) = grown_mask s _ (instr.holding m a) refl
grown l s (instr.minus m k) = grown_mask s _ (instr.minus m k) refl
grown l s (instr.root m) = grown_value s _ (instr.root m) refl
grown l s (instr.field m a n) = grown_value s _ (instr.field m a n) refl
grown l s (instr.at m a i) = grown_value s _ (instr.at m a i) refl
grown l s (instr.const m v) = grown_value s _ (instr.const m v) refl
grown l s (instr.bin m o a b) = grown_value s _ (instr.bin m o a b) refl
grown l s (instr.neg m a) = grown_value s _ (instr.neg m a) refl
grown l s (instr.not m a) = grown_value s _ (instr.not m a) refl
grown l s (instr.is m w a) = grown_value s _ (instr.is m w a) refl
grown l s (instr.first m a b) = grown_value s _ (instr.first m a b) refl
grown l s (instr.merge m k a b) = grown_value s _ (instr.merge m k a b) refl
grown l s (instr.matching m h a p) = grown_value s _ (instr.matching m h a p) refl
grown l s (instr.cast m to a) = grown_value s _ (instr.cast m to a) refl
grown l s (instr.length m f a) = grown_value s _ (instr.length m f a) refl
grown l s (instr.unix m f a) = grown_value s _ (instr.unix m f a) refl
grown l s (instr.trunc m p a) = grown_value s _ (instr.trunc m p a) refl
grown l s (instr.extract m p a) = grown_value s _ (instr.extract m p a) refl
grown l s (instr.shift m p c a) = grown_value s _ (instr.shift m p c a) refl

mask_count-cons : (x : Instr) (xs : List Instr) → mask_count (x ∷ xs) ≡ cond (makes_mask x) 1 0 + mask_count xs
mask_count-cons x xs = sum_by-cons (λ x. cond (makes_mask x) 1 0) x xs

value_count-cons : (x : Instr) (xs : List Instr) → value_count (x ∷ xs) ≡ cond (makes_value x) 1 0 + value_count xs
value_count-cons x xs = sum_by-cons (λ x. cond (makes_value x) 1 0) x xs

pub masks_from : (l : Lane) (s : State) (xs : List Instr) → length (fold (step l) s xs).masks ≡ length s.masks + mask_count xs
masks_from l s [] = sym (add-zero (length s.masks))
masks_from l s (x ∷ xs) = rw mask_count-cons (omega (arith, masks_from l (step l s x) xs, (grown l s x).masks))

pub values_from : (l : Lane) (s : State) (xs : List Instr) → length (fold (step l) s xs).values ≡ length s.values + value_count xs
values_from l s [] = sym (add-zero (length s.values))
values_from l s (x ∷ xs) = rw value_count-cons (omega (arith, values_from l (step l s x) xs, (grown l s x).values))

pub length-masks : (l : Lane) (xs : List Instr) → length (after l xs).masks ≡ mask_count xs
length-masks l xs = omega (arith, masks_from l empty xs)

pub length-values : (l : Lane) (xs : List Instr) → length (after l xs).values ≡ value_count xs
length-values l xs = omega (arith, values_from l empty xs)

by_flag : (m n : ℕ) (b : Bool) → cond b (m + 1) m + n ≡ m + (cond b 1 0 + n)
by_flag m n true = omega arith
by_flag m n false = omega arith

by_not_flag : (m n : ℕ) (b : Bool) → cond b m (m + 1) + n ≡ m + (cond (not b) 1 0 + n)
by_not_flag m n true = omega arith
by_not_flag m n false = omega arith

-- an instruction of a program names registers that stand before it
names_from : (m v : ℕ) (xs : List Instr) (k : ℕ) (d : Instr) → k < length xs → IsProgramFrom m v xs → IsInstruction (m + mask_count (take k xs)) (v + value_count (take k xs)) (slice_index_or xs k d)
names_from m v [] k d h s = absurd (omega arith)
names_from m v (x ∷ xs) zero d h s =
    let em : m ≡ m + 0 = omega arith in
    let ev : v ≡ v + 0 = omega arith in
    subst (λ n. IsInstruction n (v + 0) x) em (subst (λ n. IsInstruction m n x) ev s.0)
names_from m v (x ∷ xs) (suc k) d h s =
    let em : cond (makes_mask x) (m + 1) m + mask_count (take k xs) ≡ m + mask_count (x ∷ take k xs) = by_flag m (mask_count (take k xs)) (makes_mask x) ∙ sym (ap (λ n. m + n) (mask_count-cons x (take k xs))) in
    let ev : cond (makes_mask x) v (v + 1) + value_count (take k xs) ≡ v + value_count (x ∷ take k xs) = by_not_flag v (value_count (take k xs)) (makes_mask x) ∙ sym (ap (λ n. v + n) (value_count-cons x (take k xs))) in
    subst (λ n. IsInstruction n (v + value_count (x ∷ take k xs)) (slice_index_or xs k d)) em
    (subst (λ n. IsInstruction (cond (makes_mask x) (m + 1) m + mask_count (take k xs)) n (slice_index_or xs k d)) ev (names_from (cond (makes_mask x) (m + 1) m) (cond (makes_mask x) v (v + 1)) xs k d (omega arith) s.1))

pub names_at : (xs : List Instr) (k : ℕ) (d : Instr) → k < length xs → IsProgram xs → IsInstruction (mask_count (take k xs)) (value_count (take k xs)) (slice_index_or xs k d)
names_at xs k d h s =
    let em : 0 + mask_count (take k xs) ≡ mask_count (take k xs) = omega arith in
    let ev : 0 + value_count (take k xs) ≡ value_count (take k xs) = omega arith in
    subst (λ n. IsInstruction n (value_count (take k xs)) (slice_index_or xs k d)) em
    (subst (λ n. IsInstruction (0 + mask_count (take k xs)) n (slice_index_or xs k d)) ev (names_from 0 0 xs k d h s))

pub masks_few : (xs : List Instr) (k : ℕ) → k < length xs → mask_count (take k xs) < length xs
masks_few xs k h = omega (arith, count_by-le-length makes_mask (take k xs), length-take k xs)

pub values_few : (xs : List Instr) (k : ℕ) → k < length xs → value_count (take k xs) < length xs
values_few xs k h = omega (arith, count_by-le-length makes_value (take k xs), length-take k xs)

-- one instruction more
program_from_push : (m v : ℕ) (xs : List Instr) (x : Instr) → IsProgramFrom m v xs → IsInstruction (m + mask_count xs) (v + value_count xs) x → IsProgramFrom m v (xs ++ x ∷ [])
program_from_push m v [] x s h =
    let em : m + 0 ≡ m = omega arith in
    let ev : v + 0 ≡ v = omega arith in
    (subst (λ n. IsInstruction n v x) em (subst (λ n. IsInstruction (m + 0) n x) ev h), tt)
program_from_push m v (y ∷ xs) x s h =
    let em : m + mask_count (y ∷ xs) ≡ cond (makes_mask y) (m + 1) m + mask_count xs = ap (λ n. m + n) (mask_count-cons y xs) ∙ sym (by_flag m (mask_count xs) (makes_mask y)) in
    let ev : v + value_count (y ∷ xs) ≡ cond (makes_mask y) v (v + 1) + value_count xs = ap (λ n. v + n) (value_count-cons y xs) ∙ sym (by_not_flag v (value_count xs) (makes_mask y)) in (
      s.0,
      program_from_push (cond (makes_mask y) (m + 1) m) (cond (makes_mask y) v (v + 1)) xs x s.1
          (subst (λ n. IsInstruction n (cond (makes_mask y) v (v + 1) + value_count xs) x) em (subst (λ n. IsInstruction (m + mask_count (y ∷ xs)) n x) ev h)),
    )

pub mask_count-push : (xs : List Instr) (x : Instr) → mask_count (xs ++ x ∷ []) ≡ mask_count xs + cond (makes_mask x) 1 0
mask_count-push xs x = sum_by_push (λ x. cond (makes_mask x) 1 0) xs x

pub value_count-push : (xs : List Instr) (x : Instr) → value_count (xs ++ x ∷ []) ≡ value_count xs + cond (makes_value x) 1 0
value_count-push xs x = sum_by_push (λ x. cond (makes_value x) 1 0) xs x

from_zero : (m v : ℕ) (x : Instr) → IsInstruction m v x → IsInstruction (0 + m) (0 + v) x
from_zero m v x h =
    let em : m ≡ 0 + m = omega arith in
    let ev : v ≡ 0 + v = omega arith in
    subst (λ n. IsInstruction n (0 + v) x) em (subst (λ n. IsInstruction m n x) ev h)

pub program_push : (xs : List Instr) (x : Instr) → IsProgram xs → IsInstruction (mask_count xs) (value_count xs) x → IsProgram (xs ++ x ∷ [])
program_push xs x s h = program_from_push 0 0 xs x s (from_zero _ _ x h)
