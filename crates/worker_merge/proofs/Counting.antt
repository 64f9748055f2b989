-- Lists in which each number stands equally often.
use Rattle.std.proofs.Common.{◌≡◌, ℕ, zero, suc, ◌+◌, ◌<◌, Bool, true, false, List, [], ◌∷◌, ◌++◌, refl, sym, ap, ◌∙◌, subst, arith, nat_eq, if◌then◌else◌}
use Rattle.std.specs.Prelude.{flat_map}
use Rattle.std.proofs.lemmas.Bool.Decides.{nat_tests}
use Rattle.std.proofs.lemmas.Grind.{flat_map-append}
use Rattle.std.proofs.lemmas.List.{append_assoc}
use Rattle.std.proofs.lemmas.List.Sorted.{IsPermutation-refl, IsPermutation-trans, IsPermutation-append_comm, IsPermutation-append_left, IsPermutation-append_right}
use Rattle.std.specs.List.Sorted.{IsPermutation}
use Rattle.scan_core.specs.Times.{times, total}
use Rattle.scan_core.specs.Board.{total_below, once_below}
use Rattle.scan_core.proofs.Keeping.{times-append, total-append, once}

-- the parts of a list around a number
pub record Around (x : ℕ) (ys : List ℕ) : Type 0 where
  pub before : List ℕ
  pub behind : List ℕ
  pub whole : ys ≡ before ++ x ∷ behind

around_step : (x y : ℕ) (ys : List ℕ) → (0 < times x ys → Around x ys) → 0 < times x (y ∷ ys) → (b : Bool) → nat_eq y x ≡ b → Around x (y ∷ ys)
around_step x y ys rest h true is = let same : y ≡ x = grind (arith, nat_tests) in record { before = []; behind = ys; whole = ap (λ (z : ℕ). z ∷ ys) same }
around_step x y ys rest h false is =
    let behind : 0 < 0 + times x ys = subst (λ (t : Bool). 0 < (if t then 1 else 0) + times x ys) is h in
    let more : 0 < times x ys = omega arith in
    let a = rest more in record { before = y ∷ a.before; behind = a.behind; whole = ap (λ (l : List ℕ). y ∷ l) a.whole }

pub around : (x : ℕ) (ys : List ℕ) → 0 < times x ys → Around x ys
around x [] h = absurd (omega arith)
around x (y ∷ ys) h = around_step x y ys (λ more. around x ys more) h (nat_eq y x) refl

pub one_there : (b : ℕ) → times b (b ∷ []) ≡ 1
one_there b = grind (arith, nat_tests)

pub one_time : (x b : ℕ) → 0 < times x (b ∷ []) → x ≡ b
one_time x b h = grind (arith, nat_tests)

-- the parts around a number, without it, have all other numbers as often
module _ (x : ℕ) (xs ys : List ℕ) (same : (z : ℕ) → times z (x ∷ xs) ≡ times z ys) where
  found : Around x ys
  found = around x ys (let e = same x in let parts = times-append x (x ∷ []) xs in let one = one_there x in omega arith)

  others : (z : ℕ) → times z xs ≡ times z (found.before ++ found.behind)
  others z =
      let e = same z in
      let own = times-append z (x ∷ []) xs in
      let whole = ap (λ (l : List ℕ). times z l) found.whole in
      let parts = times-append z found.before (x ∷ found.behind) in
      let last = times-append z (x ∷ []) found.behind in
      let both = times-append z found.before found.behind in
      omega arith

none_there : (y : ℕ) (ys : List ℕ) → ((x : ℕ) → times x [] ≡ times x (y ∷ ys)) → ⊥
none_there y ys same = let e = same y in let parts = times-append y (y ∷ []) ys in let one = one_there y in omega arith

module _ {A : Type 0} (f : ℕ → List A) where
  moved : (p q a b : List A) → IsPermutation q (a ++ b) → IsPermutation (p ++ q) (a ++ (p ++ b))
  moved p q a b own =
      IsPermutation-trans (p ++ q) (p ++ (a ++ b)) (a ++ (p ++ b)) (IsPermutation-append_right p q (a ++ b) own)
      (subst (λ (l : List A). IsPermutation l (a ++ (p ++ b))) (append_assoc p a b)
      (subst (λ (l : List A). IsPermutation ((p ++ a) ++ b) l) (append_assoc a p b) (IsPermutation-append_left b (p ++ a) (a ++ p) (IsPermutation-append_comm p a))))

  pub same_parts : (xs ys : List ℕ) → ((x : ℕ) → times x xs ≡ times x ys) → IsPermutation (flat_map f xs) (flat_map f ys)
  same_parts [] [] same = IsPermutation-refl []
  same_parts [] (y ∷ ys) same = absurd (none_there y ys same)
  same_parts (x ∷ xs) ys same =
      let at = found x xs ys same in
      let own = same_parts xs (at.before ++ at.behind) (others x xs ys same) in
      let parts = ap (λ (l : List ℕ). flat_map f l) at.whole ∙ flat_map-append f at.before (x ∷ at.behind) in
      subst (IsPermutation (f x ++ flat_map f xs)) (sym parts)
      (moved (f x) (flat_map f xs) (flat_map f at.before) (flat_map f at.behind) (subst (IsPermutation (flat_map f xs)) (flat_map-append f at.before at.behind) own))

pub same_total : (g : ℕ → ℕ) (xs ys : List ℕ) → ((x : ℕ) → times x xs ≡ times x ys) → total g xs ≡ total g ys
same_total g [] [] same = refl
same_total g [] (y ∷ ys) same = absurd (none_there y ys same)
same_total g (x ∷ xs) ys same =
    let at = found x xs ys same in
    let own = same_total g xs (at.before ++ at.behind) (others x xs ys same) in
    let whole = ap (λ (l : List ℕ). total g l) at.whole in
    let parts = total-append g at.before (x ∷ at.behind) in
    let both = total-append g at.before at.behind in
    omega arith

-- the numbers below n
abbrev pub below : ℕ → List ℕ
below zero = []
below (suc n) = below n ++ n ∷ []

total_of_below : (g : ℕ → ℕ) (n : ℕ) → total g (below n) ≡ total_below g n
total_of_below g zero = refl
total_of_below g (suc n) = let own = total_of_below g n in let parts = total-append g (below n) (n ∷ []) in omega arith

pub times_below : (x n : ℕ) → times x (below n) ≡ once_below x n
times_below x n = total_of_below (λ y. if nat_eq y x then 1 else 0) n ∙ once x n
