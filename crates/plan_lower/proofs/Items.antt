-- Lists, item by item.
use Rattle.std.proofs.Common.{◌≡◌, ℕ, zero, suc, ◌+◌, ◌<◌, ◌≤◌, Bool, true, false, ◌&&◌, List, [], ◌∷◌, ◌++◌, take, drop, length, All, Some, None, refl, sym, subst, ◌∙◌, ap, add-one, arith}
use Rattle.std.specs.Prelude.{slice_get, unwrap_or}
use Rattle.std.specs.List.{list_all}

module _ {A : Type 0} where
  pub some_is : (x y : A) → Some x ≡ Some y → x ≡ y
  some_is x y h = ap (λ o. unwrap_or o x) h

  at_suc : (xs : List A) (i : ℕ) (x : A) → slice_get xs i ≡ Some x → drop i xs ≡ x ∷ drop (suc i) xs
  at_suc [] i x h = cc
  at_suc (y ∷ ys) zero x h = ap (λ z. z ∷ ys) (some_is y x h)
  at_suc (y ∷ ys) (suc i) x h = at_suc ys i x h

  -- what follows the item at a place
  pub drop_at : (xs : List A) (i : ℕ) (x : A) → slice_get xs i ≡ Some x → drop i xs ≡ x ∷ drop (i + 1) xs
  drop_at xs i x h = rw add-one (at_suc xs i x h)

  longer : (xs : List A) (k : ℕ) (x : A) → slice_get xs k ≡ Some x → take (suc k) xs ≡ take k xs ++ x ∷ []
  longer [] k x h = cc
  longer (y ∷ xs) zero x h = ap (λ z. z ∷ []) (some_is y x h)
  longer (y ∷ xs) (suc k) x h = ap (λ l. y ∷ l) (longer xs k x h)

  -- one item more
  pub take_more : (xs : List A) (k : ℕ) (x : A) → slice_get xs k ≡ Some x → take (k + 1) xs ≡ take k xs ++ x ∷ []
  take_more xs k x h = rw add-one (longer xs k x h)

  pub whole : (xs : List A) (k : ℕ) → length xs ≤ k → take k xs ≡ xs
  whole [] zero h = refl
  whole [] (suc k) h = refl
  whole (x ∷ xs) zero h = absurd (omega (arith, h))
  whole (x ∷ xs) (suc k) h = ap (λ l. x ∷ l) (whole xs k (omega (arith, h)))

  pub all_nil : (P : A → Type 0) → All P []
  all_nil P k d h = absurd (omega (arith, h))

  pub all_first : (P : A → Type 0) (x : A) (xs : List A) → All P (x ∷ xs) → P x
  all_first P x xs a = a 0 x (omega arith)

  pub all_rest : (P : A → Type 0) (x : A) (xs : List A) → All P (x ∷ xs) → All P xs
  all_rest P x xs a k d h = a (suc k) d (omega (arith, h))

  -- what holds of all items holds of the one at a place
  pub all_at : (P : A → Type 0) (xs : List A) (k : ℕ) (x : A) → slice_get xs k ≡ Some x → All P xs → P x
  all_at P [] k x h a = cc
  all_at P (y ∷ xs) zero x h a = subst P (some_is y x h) (all_first P y xs a)
  all_at P (y ∷ xs) (suc k) x h a = all_at P xs k x h (all_rest P y xs a)

  pub some_below : (xs : List A) (k : ℕ) → k < length xs → slice_get xs k ≡ None → ⊥
  some_below [] k h e = omega arith
  some_below (x ∷ xs) zero h e = cc
  some_below (x ∷ xs) (suc k) h e = some_below xs k (omega (arith, h)) e

  -- one item, and two
  pub is_one : (xs : List A) (x : A) → length xs ≡ 1 → slice_get xs 0 ≡ Some x → xs ≡ x ∷ []
  is_one xs x h e = sym (whole xs 1 (omega (arith, h))) ∙ take_more xs 0 x e

  pub are_two : (xs : List A) (x y : A) → length xs ≡ 2 → slice_get xs 0 ≡ Some x → slice_get xs 1 ≡ Some y → xs ≡ x ∷ y ∷ []
  are_two xs x y h e f = sym (whole xs 2 (omega (arith, h))) ∙ take_more xs 1 y f ∙ ap (λ l. l ++ y ∷ []) (take_more xs 0 x e)

  module _ (p : A → Bool) where
    pub passes_at : (xs : List A) (k : ℕ) (x : A) → slice_get xs k ≡ Some x → list_all p xs ≡ true → p x ≡ true
    passes_at [] k x h a = cc
    passes_at (y ∷ xs) zero x h a = (let w : y ≡ x = some_is y x h in rw (← w) (both_are (p y) (list_all p xs) a).0)
      where
        both_are : (b c : Bool) → (b && c) ≡ true → (b ≡ true) × (c ≡ true)
        both_are true true h = (refl, refl)
        both_are true false h = cc
        both_are false c h = cc
    passes_at (y ∷ xs) (suc k) x h a = passes_at xs k x h (second (p y) (list_all p xs) a)
      where
        second : (b c : Bool) → (b && c) ≡ true → c ≡ true
        second true c h = h
        second false c h = cc

    -- the items from a place on fail where the one there does, and else go on behind it
    pub fails_here : (xs : List A) (k : ℕ) (x : A) → slice_get xs k ≡ Some x → p x ≡ false → list_all p (drop k xs) ≡ list_all p xs → false ≡ list_all p xs
    fails_here xs k x h e all = sym (ap (λ b. b && list_all p (drop (k + 1) xs)) e) ∙ sym (ap (list_all p) (drop_at xs k x h)) ∙ all

    pub passes_on : (xs : List A) (k : ℕ) (x : A) → slice_get xs k ≡ Some x → p x ≡ true → list_all p (drop k xs) ≡ list_all p xs → list_all p (drop (k + 1) xs) ≡ list_all p xs
    passes_on xs k x h e all = sym (ap (λ b. b && list_all p (drop (k + 1) xs)) e) ∙ sym (ap (list_all p) (drop_at xs k x h)) ∙ all
