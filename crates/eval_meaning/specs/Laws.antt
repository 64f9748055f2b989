-- Laws of the operators.
use Rattle.std.specs.Prelude.{◌≡◌, ◌<◌, ◌↔◌, ℤ, pos, ◌+ℤ◌, ◌*ℤ◌, ◌≤ℤ◌, int_div, int_rem, unsigned_abs, List, ℕ, true}
use Rattle.eval_meaning.specs.Matching.{Likes, likes}

-- the test of patterns is the relation
abbrev pub LikesIsExact : Type 0
LikesIsExact = (pattern text : List ℕ) → (likes pattern text ≡ true) ↔ Likes pattern text

-- x is divided by y, the quotient cut towards zero: with the rest it makes x, and the rest is smaller than y and has
-- the sign of x
pub record IsDivided (x y quotient rest : ℤ) : Type 0 where
  pub is : quotient *ℤ y +ℤ rest ≡ x
  pub smaller : unsigned_abs rest < unsigned_abs y
  pub not_below : pos 0 ≤ℤ x → pos 0 ≤ℤ rest
  pub not_above : x ≤ℤ pos 0 → rest ≤ℤ pos 0

abbrev pub DivisionIsExact : Type 0
DivisionIsExact = (x y : ℤ) → 0 < unsigned_abs y → IsDivided x y (int_div x y) (int_rem x y)
