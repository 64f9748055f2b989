-- What stands in a list is smaller than the list.
use Rattle.std.proofs.Common.{◌≡◌, ℕ, zero, suc, ◌+◌, ◌<◌, List, [], ◌∷◌, ◌++◌, take, Some, refl, ap, arith, add-one}
use Rattle.std.specs.Prelude.{slice_get}
use Rattle.tree_meaning.specs.Tree.{Ex, size, exs, exs_size, arms, arms_size}
use Rattle.query_walk.proofs.Listed.{some_is}

pub item_smaller : (es : List Ex) (k : ℕ) (x : Ex) → slice_get es k ≡ Some x → size x < exs_size (exs es)
item_smaller [] k x h = cc
item_smaller (e ∷ es) zero x h = let same : size e ≡ size x = ap size (some_is e x h) in omega (arith, same)
item_smaller (e ∷ es) (suc k) x h = omega (arith, item_smaller es k x h)

pub arm_smaller : (xs : List (Ex × Ex)) (k : ℕ) (x : Ex × Ex) → slice_get xs k ≡ Some x → size x.0 + size x.1 < arms_size (arms xs)
arm_smaller [] k x h = cc
arm_smaller (y ∷ xs) zero x h =
    let same : size y.0 + size y.1 ≡ size x.0 + size x.1 = ap (λ (p : Ex × Ex). size p.0 + size p.1) (some_is y x h) in omega (arith, same)
arm_smaller (y ∷ xs) (suc k) x h = omega (arith, arm_smaller xs k x h)

module _ {A : Type 0} where
  longer : (xs : List A) (k : ℕ) (x : A) → slice_get xs k ≡ Some x → take (suc k) xs ≡ take k xs ++ x ∷ []
  longer [] k x h = cc
  longer (y ∷ xs) zero x h = ap (λ z. z ∷ []) (some_is y x h)
  longer (y ∷ xs) (suc k) x h = ap (λ l. y ∷ l) (longer xs k x h)

  -- one more element at the end of a list of so many of another
  pub taken_more : (all new xs : List A) (k : ℕ) (x y : A) → slice_get xs k ≡ Some x → y ≡ x → new ≡ all ++ y ∷ [] → all ≡ take k xs → new ≡ take (k + 1) xs
  taken_more all new xs k x y h same is sofar = rw (is, same, sofar, add-one, longer xs k x h) refl
