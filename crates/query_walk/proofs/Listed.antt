-- Two lists, compared element by element.
use Rattle.std.proofs.Common.{◌≡◌, ℕ, zero, suc, ◌+◌, ◌<◌, ◌≤◌, List, [], ◌∷◌, length, map, take, drop, Some, None, refl, sym, ◌∙◌, ap, arith, add-one}
use Rattle.std.specs.Prelude.{slice_get, unwrap_or, Bool, true, false, IsTrue}
use Rattle.std.specs.Option.{option_map}

pub some_is : {A : Type 0} (x y : A) → Some x ≡ Some y → x ≡ y
some_is x y h = ap (λ o. unwrap_or o x) h

pub some_below : {A : Type 0} (xs : List A) (k : ℕ) → k < length xs → slice_get xs k ≡ None → ⊥
some_below [] k h e = omega arith
some_below (x ∷ xs) zero h e = cc
some_below (x ∷ xs) (suc k) h e = some_below xs k (omega (arith, h)) e

pub slice_get-map : {A B : Type 0} (f : A → B) (xs : List A) (k : ℕ) → slice_get (map f xs) k ≡ option_map f (slice_get xs k)
slice_get-map f [] k = refl
slice_get-map f (x ∷ xs) zero = refl
slice_get-map f (x ∷ xs) (suc k) = slice_get-map f xs k

module _ {A : Type 0} where
  -- one more element is equal
  same_longer : (xs ys : List A) (k : ℕ) (x y : A) → slice_get xs k ≡ Some x → slice_get ys k ≡ Some y → x ≡ y → take k xs ≡ take k ys → take (suc k) xs ≡ take (suc k) ys
  same_longer [] ys k x y a b e h = cc
  same_longer (x ∷ xs) [] k v w a b e h = cc
  same_longer (x ∷ xs) (y ∷ ys) zero v w a b e h = ap (λ z. z ∷ []) (some_is x v a ∙ e ∙ sym (some_is y w b))
  same_longer (x ∷ xs) (y ∷ ys) (suc k) v w a b e h = λ i. unwrap_or (slice_get (h i) 0) x ∷ same_longer xs ys k v w a b e (ap (drop 1) h) i

  pub same_more : (xs ys : List A) (k : ℕ) (x y : A) → slice_get xs k ≡ Some x → slice_get ys k ≡ Some y → x ≡ y → take k xs ≡ take k ys → take (k + 1) xs ≡ take (k + 1) ys
  same_more xs ys k x y a b e h = rw add-one (same_longer xs ys k x y a b e h)

  pub whole : (xs : List A) (k : ℕ) → length xs ≤ k → take k xs ≡ xs
  whole [] zero h = refl
  whole [] (suc k) h = refl
  whole (x ∷ xs) zero h = absurd (omega (arith, h))
  whole (x ∷ xs) (suc k) h = ap (λ l. x ∷ l) (whole xs k (omega (arith, h)))

  pub same_all : (xs ys : List A) (k : ℕ) → length xs ≤ k → length ys ≤ k → take k xs ≡ take k ys → xs ≡ ys
  same_all xs ys k a b h = sym (whole xs k a) ∙ h ∙ whole ys k b

  -- equal lists are equal at each place
  pub same_at : (xs ys : List A) (k : ℕ) (x y : A) → slice_get xs k ≡ Some x → slice_get ys k ≡ Some y → xs ≡ ys → x ≡ y
  same_at xs ys k x y a b e = some_is x y (sym a ∙ ap (λ l. slice_get l k) e ∙ b)

module _ {A B : Type 0} (f : A → B) where
  pub mapped_at : (xs : List A) (k : ℕ) (x : A) → slice_get xs k ≡ Some x → slice_get (map f xs) k ≡ Some (f x)
  mapped_at xs k x h = slice_get-map f xs k ∙ ap (option_map f) h

-- the first unequal elements, and equal ones
module _ {A B : Type 0} (f : A → B) (xs ys : List A) (k : ℕ) (x y : A) (hx : slice_get xs k ≡ Some x) (hy : slice_get ys k ≡ Some y) where
  pub mapped_differ : (r : Bool) → (IsTrue r → f x ≡ f y) × (f x ≡ f y → IsTrue r) → r ≡ false → (IsTrue false → map f xs ≡ map f ys) × (map f xs ≡ map f ys → IsTrue false)
  mapped_differ r is h = (λ g. cc, λ e. sym h ∙ is.1 (same_at (map f xs) (map f ys) k (f x) (f y) (mapped_at f xs k x hx) (mapped_at f ys k y hy) e))

  pub mapped_more : (r : Bool) → (IsTrue r → f x ≡ f y) × (f x ≡ f y → IsTrue r) → r ≡ true → take k (map f xs) ≡ take k (map f ys) → take (k + 1) (map f xs) ≡ take (k + 1) (map f ys)
  mapped_more r is h e = same_more (map f xs) (map f ys) k (f x) (f y) (mapped_at f xs k x hx) (mapped_at f ys k y hy) (is.0 h) e
