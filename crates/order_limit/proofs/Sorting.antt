-- Each list has an arrangement that is sorted.
use Rattle.std.proofs.Common.{◌≡◌, ℕ, zero, suc, ◌+◌, ◌-◌, ◌<◌, ◌≤◌, List, [], ◌∷◌, ◌++◌, length, get_or, take, drop, Bool, true, false, refl, sym, ap, ◌∙◌, subst, arith}
use Rattle.std.specs.Cmp.{IsStrictWeakOrder}
use Rattle.std.specs.List.{All}
use Rattle.std.specs.List.Sorted.{IsPermutation, IsSortedBy}
use Rattle.std.proofs.lemmas.List.Sorted.{sorted_far, IsPermutation-refl, IsPermutation-cons, IsPermutation-trans, IsPermutation-middle, All-permutation}
use Rattle.std.proofs.lemmas.List.Elements.{All-nil, All-cons, All-head, All-tail, All-append, All-weaker}

module _ {X : Type 0} (lt : X → X → Bool) (o : IsStrictWeakOrder lt) where
  -- no element is below an earlier one
  abbrev pub Rises : List X → Type 0
  Rises [] = Unit {0}
  Rises (x ∷ xs) = All (λ y. lt y x ≡ false) xs × Rises xs

  -- x goes before y and ys, or behind y into ys, which then is rest
  abbrev placed : Bool → X → X → List X → List X → List X
  placed true x y ys rest = y ∷ rest
  placed false x y ys rest = x ∷ y ∷ ys

  abbrev put_in : X → List X → List X
  put_in x [] = x ∷ []
  put_in x (y ∷ ys) = placed (lt y x) x y ys (put_in x ys)

  abbrev pub sorted : List X → List X
  sorted [] = []
  sorted (x ∷ xs) = put_in x (sorted xs)

  placed_is : (b : Bool) (x y : X) (ys rest : List X) → IsPermutation (x ∷ ys) rest → IsPermutation (x ∷ y ∷ ys) (placed b x y ys rest)
  placed_is true x y ys rest p = IsPermutation-trans (x ∷ y ∷ ys) (y ∷ x ∷ ys) (y ∷ rest) (IsPermutation-middle (x ∷ []) y ys) (IsPermutation-cons y (x ∷ ys) rest p)
  placed_is false x y ys rest p = IsPermutation-refl (x ∷ y ∷ ys)

  put_is : (x : X) (ys : List X) → IsPermutation (x ∷ ys) (put_in x ys)
  put_is x [] = IsPermutation-refl (x ∷ [])
  put_is x (y ∷ ys) = placed_is (lt y x) x y ys (put_in x ys) (put_is x ys)

  pub sorted_is : (xs : List X) → IsPermutation xs (sorted xs)
  sorted_is [] = IsPermutation-refl []
  sorted_is (x ∷ xs) = IsPermutation-trans (x ∷ xs) (x ∷ sorted xs) (put_in x (sorted xs)) (IsPermutation-cons x xs (sorted xs) (sorted_is xs)) (put_is x (sorted xs))

  placed_rises : (b : Bool) (x y : X) (ys : List X) → lt y x ≡ b → Rises (y ∷ ys) → Rises (put_in x ys) → Rises (placed b x y ys (put_in x ys))
  placed_rises true x y ys e h k = (All-permutation (λ z. lt z y ≡ false) (x ∷ ys) (put_in x ys) (put_is x ys) (All-cons (λ z. lt z y ≡ false) x ys (o.one_way y x e) h.0), k)
  placed_rises false x y ys e h k = (All-cons (λ z. lt z x ≡ false) y ys e (All-weaker (λ z. lt z y ≡ false) (λ z. lt z x ≡ false) (λ z g. o.chain z y x g e) ys h.0), h)

  put_rises : (x : X) (ys : List X) → Rises ys → Rises (put_in x ys)
  put_rises x [] h = (All-nil (λ y. lt y x ≡ false), h)
  put_rises x (y ∷ ys) h = placed_rises (lt y x) x y ys refl h (put_rises x ys h.1)

  pub sorted_rises : (xs : List X) → Rises (sorted xs)
  sorted_rises [] = tt
  sorted_rises (x ∷ xs) = put_rises x (sorted xs) (sorted_rises xs)

  -- between this and std's word
  pub is_sorted : (xs : List X) → Rises xs → IsSortedBy lt xs
  is_sorted [] h k d low high = absurd (omega (arith, high))
  is_sorted (x ∷ xs) h zero d low high = h.0 0 d (omega (arith, high))
  is_sorted (x ∷ xs) h (suc k) d low high =
      let e : suc k + 1 ≡ suc (k + 1) = omega arith in
      subst (λ (i : ℕ). lt (get_or (x ∷ xs) i d) (get_or xs k d) ≡ false) (sym e) (is_sorted xs h.1 k d (omega arith) (omega (arith, high)))

  rest_is_sorted : (x : X) (xs : List X) → IsSortedBy lt (x ∷ xs) → IsSortedBy lt xs
  rest_is_sorted x xs up k d low high =
      let e : suc k + 1 ≡ suc (k + 1) = omega arith in
      subst (λ (i : ℕ). lt (get_or (x ∷ xs) i d) (get_or xs k d) ≡ false) e (up (suc k) d (omega arith) (omega (arith, high)))

  pub rises : (xs : List X) → IsSortedBy lt xs → Rises xs
  rises [] up = tt
  rises (x ∷ xs) up = (λ k d there. sorted_far lt o (x ∷ xs) up 0 (suc k) d (omega arith) (omega (arith, there)), rises xs (rest_is_sorted x xs up))

  -- two lists that rise, no element of the second below one of the first
  pub rises_on : (xs ys : List X) → Rises xs → Rises ys → All (λ y. All (λ x. lt y x ≡ false) xs) ys → Rises (xs ++ ys)
  rises_on [] ys h k between = k
  rises_on (x ∷ xs) ys h k between = (
    All-append (λ y. lt y x ≡ false) xs ys h.0 (All-weaker (λ y. All (λ x. lt y x ≡ false) (x ∷ xs)) (λ y. lt y x ≡ false) (λ y g. All-head (λ x. lt y x ≡ false) x xs g) ys between),
    rises_on xs ys h.1 k (All-weaker (λ y. All (λ x. lt y x ≡ false) (x ∷ xs)) (λ y. All (λ x. lt y x ≡ false) xs) (λ y g. All-tail (λ x. lt y x ≡ false) x xs g) ys between),
  )

-- the first m elements, less the first s many
front : {X : Type 0} (m : ℕ) (xs ys : List X) → length xs ≤ m → (length xs < m → ys ≡ []) → xs ≡ take m (xs ++ ys)
front zero [] ys few room = refl
front (suc m) [] ys few room = sym (ap (take (suc m)) (room (omega arith)))
front zero (x ∷ xs) ys few room = absurd (omega (arith, few))
front (suc m) (x ∷ xs) ys few room = ap (λ l. x ∷ l) (front m xs ys (omega (arith, few)) (λ h. room (omega (arith, h))))

none_taken : {X : Type 0} (n : ℕ) (xs : List X) → xs ≡ [] → xs ≡ take n xs
none_taken zero xs h = h
none_taken (suc n) [] h = refl
none_taken (suc n) (x ∷ xs) h = absurd (cc)

pub front_less : {X : Type 0} (m s : ℕ) (xs ys : List X) → length xs ≤ m → (length xs < m → ys ≡ []) → drop s xs ≡ take (m - s) (drop s (xs ++ ys))
front_less m zero xs ys few room =
    let e : m ≡ m - 0 = omega arith in
    front m xs ys few room ∙ ap (λ n. take n (xs ++ ys)) e
front_less zero (suc s) [] ys few room =
    let e : 0 ≡ 0 - suc s = omega arith in
    ap (λ n. take n (drop (suc s) ys)) e
front_less (suc m) (suc s) [] ys few room = none_taken (suc m - suc s) [] refl ∙ sym (ap (λ l. take (suc m - suc s) (drop (suc s) l)) (room (omega arith)))
front_less zero (suc s) (x ∷ xs) ys few room = absurd (omega (arith, few))
front_less (suc m) (suc s) (x ∷ xs) ys few room =
    let e : m - s ≡ suc m - suc s = omega arith in
    front_less m s xs ys (omega (arith, few)) (λ h. room (omega (arith, h))) ∙ ap (λ n. take n (drop s (xs ++ ys))) e
