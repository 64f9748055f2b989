-- The test of equality holds exactly of equal trees.
use Rattle.std.proofs.Common.{◌≡◌, ℕ, Bool, true, false, ◌&&◌, nat_eq, refl, ap, arith}
use Rattle.std.proofs.lemmas.Bool.Decides.{nat_tests}
use base.Stored.{Gv, gnil, gnum, gcons}
use Rattle.tree_meaning.specs.Tree.{Ex}
use Rattle.tree_meaning.specs.Code.{code_ex, ex_inj}
use Rattle.check_meaning.specs.Same.{same_code, same_ex}

both_left : (a b : Bool) → (a && b) ≡ true → a ≡ true
both_left true b h = refl
both_left false b h = h

both_right : (a b : Bool) → (a && b) ≡ true → b ≡ true
both_right true b h = h
both_right false b h = cc

number_is : (m n : ℕ) → nat_eq m n ≡ true → m ≡ n
number_is m n h = grind (arith, nat_tests)

number_same : (n : ℕ) → nat_eq n n ≡ true
number_same n = grind (arith, nat_tests)

code_is : (x y : Gv) → same_code x y ≡ true → x ≡ y
code_is gnil gnil h = refl
code_is (gnum m) (gnum n) h = ap gnum (number_is m n h)
code_is (gcons a b) (gcons c d) h = λ i. gcons (code_is a c (both_left _ _ h) i) (code_is b d (both_right (same_code a c) _ h) i)
code_is x y h = cc

code_same : (x : Gv) → same_code x x ≡ true
code_same gnil = refl
code_same (gnum n) = number_same n
code_same (gcons a b) = rw (code_same a, code_same b) refl

pub same_ex-is : (a b : Ex) → same_ex a b ≡ true → a ≡ b
unfolding same_ex
same_ex-is a b h = ex_inj a b (code_is (code_ex a) (code_ex b) h)

pub same_ex-refl : (a : Ex) → same_ex a a ≡ true
unfolding same_ex
same_ex-refl a = code_same (code_ex a)

pub same_ex-of : (a b : Ex) → a ≡ b → same_ex a b ≡ true
same_ex-of a b e = rw (← e) (same_ex-refl a)
