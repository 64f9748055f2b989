-- The registers of a program stay when it goes on.
use Rattle.std.proofs.Common.{◌≡◌, ℕ, ◌<◌, refl, ap, sym, subst, ◌∙◌, Bool, false, List, [], ◌∷◌, ◌++◌, length, slice_index_or, append_assoc, append-nil}
use Rattle.std.proofs.Math.Seq.{get_or-append_seam}
use Rattle.std.proofs.lemmas.List.{get_or_append_left}
use Rattle.std.specs.Prelude.{fold}
use Rattle.std.proofs.lemmas.List.Sums.{fold-append}
use Rattle.value_meaning.specs.Val.{Val, missing}
use Rattle.program_meaning.specs.Instructions.{Instr}
use Rattle.program_meaning.specs.Programs.{mask_count, value_count, Extends}
use Rattle.program_meaning.specs.Registers.{Lane, State, Made, new_mask, new_value, made_by, with_made, step, empty, after, mask_at, value_at}
use Rattle.program_meaning.proofs.Programs.{length-masks, length-values}

pub extends_itself : (xs : List Instr) → Extends xs xs
extends_itself xs = record { code = []; is = sym (append-nil xs) }

pub extends_further : (xs ys zs : List Instr) → Extends xs ys → Extends ys zs → Extends xs zs
extends_further xs ys zs p q = record { code = p.code ++ q.code; is = q.is ∙ ap (λ l. l ++ q.code) p.is ∙ append_assoc xs p.code q.code }

pub extends_by_one : (xs ys : List Instr) (x : Instr) → ys ≡ xs ++ x ∷ [] → Extends xs ys
extends_by_one xs ys x e = record { code = x ∷ []; is = e }

-- the registers of the second are those of the first and more
record IsMore (s s' : State) : Type 0 where
  masks : (more : List Bool) × (s'.masks ≡ s.masks ++ more)
  values : (more : List Val) × (s'.values ≡ s.values ++ more)

more_made : (s : State) (r : Made) → IsMore s (with_made s r)
more_made s (new_mask b) = record { masks = (b ∷ [], refl); values = ([], sym (append-nil s.values)) }
more_made s (new_value v) = record { masks = ([], sym (append-nil s.masks)); values = (v ∷ [], refl) }

more_after : (l : Lane) (s : State) (xs : List Instr) → IsMore s (fold (step l) s xs)
more_after l s [] = record { masks = ([], sym (append-nil s.masks)); values = ([], sym (append-nil s.values)) }
more_after l s (x ∷ xs) =
    let one = more_made s (made_by l s x) in
    let rest = more_after l (step l s x) xs in
    record {
      masks = (one.masks.0 ++ rest.masks.0, rest.masks.1 ∙ ap (λ l. l ++ rest.masks.0) one.masks.1 ∙ append_assoc s.masks one.masks.0 rest.masks.0);
      values = (one.values.0 ++ rest.values.0, rest.values.1 ∙ ap (λ l. l ++ rest.values.0) one.values.1 ∙ append_assoc s.values one.values.0 rest.values.0);
    }

more : (l : Lane) (xs ys : List Instr) → Extends xs ys → IsMore (after l xs) (after l ys)
more l xs ys p = subst (λ s. IsMore (after l xs) s) (sym (ap (after l) p.is ∙ fold-append (step l) empty xs p.code)) (more_after l (after l xs) p.code)

pub mask_stays : (l : Lane) (xs ys : List Instr) (m : ℕ) → Extends xs ys → m < mask_count xs → mask_at (after l ys) m ≡ mask_at (after l xs) m
mask_stays l xs ys m p h =
    let k = (more l xs ys p).masks in
    let inside : m < length (after l xs).masks = rw length-masks h in
    ap (λ bs. slice_index_or bs m false) k.1 ∙ get_or_append_left (after l xs).masks k.0 false m inside

pub value_stays : (l : Lane) (xs ys : List Instr) (r : ℕ) → Extends xs ys → r < value_count xs → value_at (after l ys) r ≡ value_at (after l xs) r
value_stays l xs ys r p h =
    let k = (more l xs ys p).values in
    let inside : r < length (after l xs).values = rw length-values h in
    ap (λ vs. slice_index_or vs r missing) k.1 ∙ get_or_append_left (after l xs).values k.0 missing r inside

after_one : (l : Lane) (xs ys : List Instr) (x : Instr) → ys ≡ xs ++ x ∷ [] → after l ys ≡ step l (after l xs) x
after_one l xs ys x p = ap (after l) p ∙ fold-append (step l) empty xs (x ∷ [])

-- the register that the last instruction makes
pub mask_made : (l : Lane) (xs ys : List Instr) (x : Instr) (b : Bool) → ys ≡ xs ++ x ∷ [] → made_by l (after l xs) x ≡ new_mask b → mask_at (after l ys) (mask_count xs) ≡ b
mask_made l xs ys x b p r =
    ap (λ (s : State). slice_index_or s.masks (mask_count xs) false) (after_one l xs ys x p ∙ ap (with_made (after l xs)) r)
    ∙ ap (λ n. slice_index_or ((after l xs).masks ++ b ∷ []) n false) (sym (length-masks l xs))
    ∙ get_or-append_seam (after l xs).masks b [] false

pub value_made : (l : Lane) (xs ys : List Instr) (x : Instr) (v : Val) → ys ≡ xs ++ x ∷ [] → made_by l (after l xs) x ≡ new_value v → value_at (after l ys) (value_count xs) ≡ v
value_made l xs ys x v p r =
    ap (λ (s : State). slice_index_or s.values (value_count xs) missing) (after_one l xs ys x p ∙ ap (with_made (after l xs)) r)
    ∙ ap (λ n. slice_index_or ((after l xs).values ++ v ∷ []) n missing) (sym (length-values l xs))
    ∙ get_or-append_seam (after l xs).values v [] missing
