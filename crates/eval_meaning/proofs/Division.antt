-- Division with a rest.
use Rattle.std.proofs.Common.{◌<◌, ℤ, pos, negsuc, ◌≤ℤ◌, unsigned_abs, arith}
use Rattle.std.specs.Prelude.{int_div, int_rem}
use Rattle.std.proofs.lemmas.Int.{quot-rem, rem_below}
use Rattle.jiff_core.proofs.SignedLemmas.{signed_arith}
use Rattle.eval_meaning.specs.Laws.{IsDivided}

rest_not_below : (x y : ℤ) → pos 0 ≤ℤ x → pos 0 ≤ℤ int_rem x y
rest_not_below (pos a) y h = omega (arith, signed_arith)
rest_not_below (negsuc a) y h = absurd (omega (arith, signed_arith))

rest_not_above : (x y : ℤ) → x ≤ℤ pos 0 → int_rem x y ≤ℤ pos 0
rest_not_above (pos a) y h = omega (arith, signed_arith)
rest_not_above (negsuc a) y h = omega (arith, signed_arith)

pub is_divided : (x y : ℤ) → 0 < unsigned_abs y → IsDivided x y (int_div x y) (int_rem x y)
is_divided x y h = record { is = quot-rem x y; smaller = rem_below x y h; not_below = rest_not_below x y; not_above = rest_not_above x y }
