-- A list, searched from a place on.
use Rattle.std.proofs.Common.{◌≡◌, ℕ, zero, suc, ◌+◌, ◌≤◌, Bool, true, false, List, [], ◌∷◌, length, drop, Option, Some, None, refl, ◌∙◌, ap, arith, add-one}
use Rattle.std.specs.Prelude.{slice_get, IsTrue, find}
use Rattle.std.specs.List.{list_any, position_from}
use Rattle.tree_meaning.specs.Tree.{Ex}
use Rattle.check_meaning.specs.Same.{same_ex}
use Rattle.check_meaning.proofs.Same.{same_ex-is, same_ex-of}
use Rattle.query_walk.proofs.Listed.{some_is}

module _ {A : Type 0} where
  dropped : (xs : List A) (k : ℕ) (x : A) → slice_get xs k ≡ Some x → drop k xs ≡ x ∷ drop (suc k) xs
  dropped [] k x h = cc
  dropped (y ∷ xs) zero x h = ap (λ z. z ∷ xs) (some_is y x h)
  dropped (y ∷ xs) (suc k) x h = dropped xs k x h

  pub drop_at : (xs : List A) (k : ℕ) (x : A) → slice_get xs k ≡ Some x → drop k xs ≡ x ∷ drop (k + 1) xs
  drop_at xs k x h = rw add-one (dropped xs k x h)

  pub drop_end : (xs : List A) (k : ℕ) → length xs ≤ k → drop k xs ≡ []
  drop_end [] zero h = refl
  drop_end [] (suc k) h = refl
  drop_end (x ∷ xs) zero h = absurd (omega (arith, h))
  drop_end (x ∷ xs) (suc k) h = drop_end xs k (omega (arith, h))

  module _ (p : A → Bool) (xs : List A) (k : ℕ) where
    pub any_here : (w : Bool) (x : A) → slice_get xs k ≡ Some x → p x ≡ true → w ≡ list_any p (drop k xs) → w ≡ true
    any_here w x h t sofar = sofar ∙ (rw (drop_at xs k x h, t) refl)

    pub any_next : (w : Bool) (x : A) → slice_get xs k ≡ Some x → p x ≡ false → w ≡ list_any p (drop k xs) → w ≡ list_any p (drop (k + 1) xs)
    any_next w x h t sofar = sofar ∙ (rw (drop_at xs k x h, t) refl)

    pub any_end : (w : Bool) → length xs ≤ k → w ≡ list_any p (drop k xs) → w ≡ false
    any_end w h sofar = sofar ∙ (rw (drop_end xs k h) refl)

    pub find_here : (w : Option A) (x : A) → slice_get xs k ≡ Some x → p x ≡ true → w ≡ find p (drop k xs) → w ≡ Some x
    find_here w x h t sofar = sofar ∙ (rw (drop_at xs k x h, t) refl)

    pub find_next : (w : Option A) (x : A) → slice_get xs k ≡ Some x → p x ≡ false → w ≡ find p (drop k xs) → w ≡ find p (drop (k + 1) xs)
    find_next w x h t sofar = sofar ∙ (rw (drop_at xs k x h, t) refl)

    pub find_end : (w : Option A) → length xs ≤ k → w ≡ find p (drop k xs) → w ≡ None
    find_end w h sofar = sofar ∙ (rw (drop_end xs k h) refl)

-- the test of equality answers what a comparison found
pub same_is : (a b : Ex) (r : Bool) → (IsTrue r → a ≡ b) × (a ≡ b → IsTrue r) → same_ex a b ≡ r
same_is a b true h = same_ex-of a b (h.0 refl)
same_is a b false h = unequal (same_ex a b) refl
  where
    unequal : (v : Bool) → same_ex a b ≡ v → same_ex a b ≡ false
    unequal true e = let k : false ≡ true = h.1 (same_ex-is a b e) in cc
    unequal false e = e

module _ {A : Type 0} (p : A → Bool) (xs : List A) (k : ℕ) (w : Option ℕ) where
  pub position_here : (x : A) → slice_get xs k ≡ Some x → p x ≡ true → w ≡ position_from p k (drop k xs) → w ≡ Some k
  position_here x h t sofar = sofar ∙ (rw (drop_at xs k x h, t) refl)

  pub position_next : (x : A) → slice_get xs k ≡ Some x → p x ≡ false → w ≡ position_from p k (drop k xs) → w ≡ position_from p (k + 1) (drop (k + 1) xs)
  position_next x h t sofar = sofar ∙ (rw (drop_at xs k x h, t) refl)
