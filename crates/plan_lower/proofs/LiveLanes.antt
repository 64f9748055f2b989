-- A lane of any mask is live, and what each program begins with shows there.
use Rattle.std.proofs.Common.{◌≡◌, ℕ, zero, suc, refl, ap, ◌∙◌, arith, Bool, true, false, ◌&&◌, List, [], ◌∷◌, ◌++◌, slice_index_or}
use Rattle.std.proofs.lemmas.List.Folds.{list_any-append}
use Rattle.std.specs.Prelude.{fold}
use Rattle.std.specs.List.{list_any}
use Rattle.program_meaning.specs.Instructions.{Instr}
use Rattle.program_meaning.specs.Instructions as instr
use Rattle.program_meaning.specs.Registers.{Lane, State, empty, step, after, mask_at, value_at, within}
use Rattle.program_meaning.proofs.Persist.{value_stays}
use Rattle.plan_lower.specs.Emitting.{Begins}

-- no mask is set
abbrev IsClear : List Bool → Type 0
IsClear bs = list_any (λ (b : Bool). b) bs ≡ false

clear_at : (bs : List Bool) (m : ℕ) → IsClear bs → slice_index_or bs m false ≡ false
clear_at [] zero h = refl
clear_at [] (suc m) h = refl
clear_at (true ∷ bs) m h = absurd (cc)
clear_at (false ∷ bs) zero h = refl
clear_at (false ∷ bs) (suc m) h = clear_at bs m h

one_more : (bs : List Bool) (b : Bool) → IsClear bs → b ≡ false → IsClear (bs ++ b ∷ [])
one_more bs b h k = list_any-append (λ (c : Bool). c) bs (b ∷ []) ∙ rw (h, k) refl

part_of : (s : State) (m : ℕ) (b : Bool) → IsClear s.masks → (mask_at s m && b) ≡ false
part_of s m b h = ap (λ c. c && b) (clear_at s.masks m h)

module _ (l : Lane) (dead : l.live ≡ false) where
  step_clear : (s : State) (x : Instr) → IsClear s.masks → IsClear (step l s x).masks
  step_clear s instr.all h = one_more s.masks l.live h dead
  step_clear s (instr.holding m a) h = one_more s.masks _ h (part_of s m _ h)
  step_clear s (instr.minus m k) h = one_more s.masks _ h (part_of s m _ h)
  step_clear s x h = h

  all_clear : (s : State) (xs : List Instr) → IsClear s.masks → IsClear (fold (step l) s xs).masks
  all_clear s [] h = h
  all_clear s (x ∷ xs) h = all_clear (step l s x) xs (step_clear s x h)

-- a lane of any mask is live
pub is_live : (l : Lane) (xs : List Instr) (m : ℕ) → mask_at (after l xs) m ≡ true → l.live ≡ true
is_live l xs m h = either l.live refl
  where
    either : (b : Bool) → l.live ≡ b → l.live ≡ true
    either true e = e
    either false e = let none = clear_at (after l xs).masks m (all_clear l e empty xs refl) in absurd (cc)

-- the row stands in the register 0 in the lanes of any mask
pub row_shown : (l : Lane) (xs : List Instr) (m : ℕ) → Begins xs → mask_at (after l xs) m ≡ true → value_at (after l xs) 0 ≡ l.pair.row
row_shown l xs m begun h =
    value_stays l (instr.all ∷ instr.root 0 ∷ []) xs 0 begun (omega arith)
    ∙ ap (λ b. within b l.pair.row) (is_live l xs m h)
