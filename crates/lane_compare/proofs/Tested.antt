-- What `<` and `==` of two numbers say of their order.
use Rattle.std.proofs.Common.{◌≡◌, ◌≢◌, ℕ, ℤ, List, sym, arith, refl, Bool, true, false, ◌&&◌}
use Rattle.std.specs.Prelude.{◌<ℤ◌, ◌≤ℤ◌}
use Rattle.std.specs.Ordering.{int_cmp, nat_cmp, is_lt, is_eq}
use Rattle.std.specs.Cmp.Lexicographic.{slice_cmp}
use Rattle.std.specs.Str.{bytes_eq}
use Rattle.std.proofs.lemmas.Map.Text.{is_eq-slice_cmp}
use Rattle.std.proofs.lemmas.Int.{ints}

pub less_true : (x y : ℤ) → x <ℤ y → is_lt (int_cmp x y) ≡ true
less_true x y h = grind (arith, ints)

pub less_false : (x y : ℤ) → y ≤ℤ x → is_lt (int_cmp x y) ≡ false
less_false x y h = grind (arith, ints)

pub equal_true : (x y : ℤ) → x ≡ y → is_eq (int_cmp x y) ≡ true
equal_true x y h = grind (arith, ints)

pub equal_false : (x y : ℤ) → x ≢ y → is_eq (int_cmp x y) ≡ false
equal_false x y h = grind (arith, ints)

-- both of two tests
pub both_hold : (p q : Bool) → p ≡ true → q ≡ true → (p && q) ≡ true
both_hold true q e f = f
both_hold false q e f = e

pub first_fails : (p q : Bool) → p ≡ false → (p && q) ≡ false
first_fails true q e = cc
first_fails false q e = refl

pub second_fails : (p q : Bool) → q ≡ false → (p && q) ≡ false
second_fails true q e = e
second_fails false q e = refl

-- texts are the same where none comes first
pub same_bytes : (xs ys : List ℕ) → bytes_eq xs ys ≡ is_eq (slice_cmp nat_cmp xs ys)
same_bytes xs ys = sym (is_eq-slice_cmp xs ys)
