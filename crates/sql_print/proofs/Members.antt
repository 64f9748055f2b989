-- The members of lists: smaller than their list, and formed where all are.
use Rattle.std.proofs.Common.{◌≡◌, ℕ, zero, suc, ◌+◌, ◌<◌, List, [], ◌∷◌, Some, ap, arith, sym}
use Rattle.std.specs.Prelude.{slice_get, unwrap_or, All, Option, map}
use Rattle.std.proofs.lemmas.List.Elements.{All-head, All-tail}
use Rattle.tree_meaning.specs.Tree.{Ex, size, exs, exs_size, arms, arms_size}
use Rattle.tree_meaning.specs.WellFormed.{IsFormed, AreFormed, ArmsAreFormed}

some_is : {A : Type 0} (x y : A) → Some x ≡ Some y → x ≡ y
some_is x y h = ap (λ (o : Option _). unwrap_or o x) h

pub expr_smaller : (es : List Ex) (k : ℕ) (x : Ex) → slice_get es k ≡ Some x → size x < exs_size (exs es)
expr_smaller [] k x h = absurd cc
expr_smaller (e ∷ es) zero x h = let same : size e ≡ size x = ap size (some_is e x h) in omega (arith, same)
expr_smaller (e ∷ es) (suc k) x h = omega (arith, expr_smaller es k x h)

pub arm_smaller : (xs : List (Ex × Ex)) (k : ℕ) (x : Ex × Ex) → slice_get xs k ≡ Some x → size x.0 + size x.1 < arms_size (arms xs)
arm_smaller [] k x h = absurd cc
arm_smaller (y ∷ xs) zero x h =
    let same : size y.0 + size y.1 ≡ size x.0 + size x.1 = ap (λ (p : Ex × Ex). size p.0 + size p.1) (some_is y x h) in omega (arith, same)
arm_smaller (y ∷ xs) (suc k) x h = omega (arith, arm_smaller xs k x h)

pub expr_formed : (es : List Ex) (k : ℕ) (x : Ex) → AreFormed (exs es) → slice_get es k ≡ Some x → IsFormed x
expr_formed [] k x a h = absurd cc
expr_formed (e ∷ es) zero x a h = rw (sym (some_is e x h)) a.0
expr_formed (e ∷ es) (suc k) x a h = expr_formed es k x a.1 h

pub arm_formed : (xs : List (Ex × Ex)) (k : ℕ) (x : Ex × Ex) → ArmsAreFormed (arms xs) → slice_get xs k ≡ Some x → IsFormed x.0 × IsFormed x.1
arm_formed [] k x a h = absurd cc
arm_formed (y ∷ xs) zero x a h = let same = sym (some_is y x h) in rw same (a.0, a.1)
arm_formed (y ∷ xs) (suc k) x a h = arm_formed xs k x a.2 h

pub each_formed : (es : List Ex) → All IsFormed es → AreFormed (exs es)
each_formed [] a = tt
each_formed (e ∷ es) a = (All-head IsFormed e es a, each_formed es (All-tail IsFormed e es a))

pub mapped : {A B : Type 0} (f : A → B) (xs : List A) (k : ℕ) (x : A) → slice_get xs k ≡ Some x → slice_get (map f xs) k ≡ Some (f x)
mapped f [] k x h = absurd cc
mapped f (y ∷ xs) zero x h = ap (λ z. Some (f z)) (some_is y x h)
mapped f (y ∷ xs) (suc k) x h = mapped f xs k x h
