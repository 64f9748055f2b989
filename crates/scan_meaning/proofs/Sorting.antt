-- Each list has an arrangement that is sorted.
use Rattle.std.proofs.Common.{◌≡◌, ℕ, zero, suc, ◌+◌, List, [], ◌∷◌, get_or, Bool, true, false, refl, sym, subst, arith}
use Rattle.std.specs.Cmp.{IsStrictWeakOrder}
use Rattle.std.specs.List.{All}
use Rattle.std.specs.List.Sorted.{IsPermutation, IsSortedBy}
use Rattle.std.proofs.lemmas.List.Sorted.{IsPermutation-refl, IsPermutation-cons, IsPermutation-trans, IsPermutation-middle, All-permutation}
use Rattle.std.proofs.lemmas.List.Elements.{All-nil, All-cons, All-weaker}

module _ {X : Type 0} (lt : X → X → Bool) (o : IsStrictWeakOrder lt) where
  -- no element is below an earlier one
  abbrev Rises : List X → Type 0
  Rises [] = Unit {0}
  Rises (x ∷ xs) = All (λ y. lt y x ≡ false) xs × Rises xs

  -- x goes before y and ys, or behind y into ys, which then is rest
  abbrev placed : Bool → X → X → List X → List X → List X
  placed true x y ys rest = y ∷ rest
  placed false x y ys rest = x ∷ y ∷ ys

  abbrev put_in : X → List X → List X
  put_in x [] = x ∷ []
  put_in x (y ∷ ys) = placed (lt y x) x y ys (put_in x ys)

  abbrev pub sorted : List X → List X
  sorted [] = []
  sorted (x ∷ xs) = put_in x (sorted xs)

  placed_is : (b : Bool) (x y : X) (ys rest : List X) → IsPermutation (x ∷ ys) rest → IsPermutation (x ∷ y ∷ ys) (placed b x y ys rest)
  placed_is true x y ys rest p = IsPermutation-trans (x ∷ y ∷ ys) (y ∷ x ∷ ys) (y ∷ rest) (IsPermutation-middle (x ∷ []) y ys) (IsPermutation-cons y (x ∷ ys) rest p)
  placed_is false x y ys rest p = IsPermutation-refl (x ∷ y ∷ ys)

  put_is : (x : X) (ys : List X) → IsPermutation (x ∷ ys) (put_in x ys)
  put_is x [] = IsPermutation-refl (x ∷ [])
  put_is x (y ∷ ys) = placed_is (lt y x) x y ys (put_in x ys) (put_is x ys)

  pub sorted_is : (xs : List X) → IsPermutation xs (sorted xs)
  sorted_is [] = IsPermutation-refl []
  sorted_is (x ∷ xs) = IsPermutation-trans (x ∷ xs) (x ∷ sorted xs) (put_in x (sorted xs)) (IsPermutation-cons x xs (sorted xs) (sorted_is xs)) (put_is x (sorted xs))

  placed_rises : (b : Bool) (x y : X) (ys : List X) → lt y x ≡ b → Rises (y ∷ ys) → Rises (put_in x ys) → Rises (placed b x y ys (put_in x ys))
  placed_rises true x y ys e h k = (All-permutation (λ z. lt z y ≡ false) (x ∷ ys) (put_in x ys) (put_is x ys) (All-cons (λ z. lt z y ≡ false) x ys (o.one_way y x e) h.0), k)
  placed_rises false x y ys e h k = (All-cons (λ z. lt z x ≡ false) y ys e (All-weaker (λ z. lt z y ≡ false) (λ z. lt z x ≡ false) (λ z g. o.chain z y x g e) ys h.0), h)

  put_rises : (x : X) (ys : List X) → Rises ys → Rises (put_in x ys)
  put_rises x [] h = (All-nil (λ y. lt y x ≡ false), h)
  put_rises x (y ∷ ys) h = placed_rises (lt y x) x y ys refl h (put_rises x ys h.1)

  sorted_rises : (xs : List X) → Rises (sorted xs)
  sorted_rises [] = tt
  sorted_rises (x ∷ xs) = put_rises x (sorted xs) (sorted_rises xs)

  is_sorted : (xs : List X) → Rises xs → IsSortedBy lt xs
  is_sorted [] h k d low high = absurd (omega (arith, high))
  is_sorted (x ∷ xs) h zero d low high = h.0 0 d (omega (arith, high))
  is_sorted (x ∷ xs) h (suc k) d low high =
      let e : suc k + 1 ≡ suc (k + 1) = omega arith in
      subst (λ (i : ℕ). lt (get_or (x ∷ xs) i d) (get_or xs k d) ≡ false) (sym e) (is_sorted xs h.1 k d (omega arith) (omega (arith, high)))

  pub sorted_up : (xs : List X) → IsSortedBy lt (sorted xs)
  sorted_up xs = is_sorted (sorted xs) (sorted_rises xs)
