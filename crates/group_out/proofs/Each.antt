-- What holds of each element of a list, element by element.
use Rattle.std.proofs.Common.{◌≡◌, ℕ, zero, suc, List, [], ◌∷◌, ◌++◌, map, Some, ap, subst, All}
use Rattle.std.specs.Prelude.{slice_get, unwrap_or}
use Rattle.std.proofs.lemmas.List.Elements.{All-nil, All-cons, All-head, All-tail}

module _ {A : Type 0} (P : A → Type 0) where
  abbrev pub Each : List A → Type 0
  Each [] = Unit {0}
  Each (x ∷ xs) = P x × Each xs

  pub each_of : (xs : List A) → All P xs → Each xs
  each_of [] h = tt
  each_of (x ∷ xs) h = (All-head P x xs h, each_of xs (All-tail P x xs h))

  pub all_of : (xs : List A) → Each xs → All P xs
  all_of [] h = All-nil P
  all_of (x ∷ xs) h = All-cons P x xs h.0 (all_of xs h.1)

  -- of each of two lists, one after the other
  pub both_hold : (xs ys : List A) → Each (xs ++ ys) → Each xs × Each ys
  both_hold [] ys h = (tt, h)
  both_hold (x ∷ xs) ys h = let more = both_hold xs ys h.1 in ((h.0, more.0), more.1)

  some_is : (x y : A) → Some x ≡ Some y → x ≡ y
  some_is x y h = ap (λ o. unwrap_or o x) h

  pub holds_at : (xs : List A) (k : ℕ) (x : A) → Each xs → slice_get xs k ≡ Some x → P x
  holds_at [] k x h e = cc
  holds_at (y ∷ xs) zero x h e = subst P (some_is y x e) h.0
  holds_at (y ∷ xs) (suc k) x h e = holds_at xs k x h.1 e

module _ {A : Type 0} (P Q : A → Type 0) where
  pub for_each : (xs : List A) → Each P xs → ((x : A) → P x → Q x) → Each Q xs
  for_each [] h k = tt
  for_each (x ∷ xs) h k = (k x h.0, for_each xs h.1 k)

module _ {A B : Type 0} (f g : A → B) where
  pub same_map : (xs : List A) → Each (λ x. f x ≡ g x) xs → map f xs ≡ map g xs
  same_map [] h = tt_refl
    where
      tt_refl : ◌≡◌ {A = List B} [] []
      tt_refl = λ i. []
  same_map (x ∷ xs) h = λ i. h.0 i ∷ same_map xs h.1 i
