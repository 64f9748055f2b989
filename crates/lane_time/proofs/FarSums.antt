-- A count of a length that is at most a week, and a time, stay far from the ends of 128 bits.
use Rattle.std.proofs.Common.{ℕ, ℤ, pos, ◌+◌, ◌*◌, ◌^◌, ◌<◌, ◌≤◌, ◌+ℤ◌, ◌*ℤ◌, arith, FitsSigned, w64}
use Rattle.std.specs.Prelude.{unsigned_abs}
use Rattle.std.specs.Int.{w128}
use Rattle.std.proofs.Math.Nat.{mul-le-mul}
use Rattle.jiff_core.proofs.SignedLemmas.{signed_arith, one_part, unsigned_abs-product}

small : (z : ℤ) → FitsSigned w64 z → unsigned_abs z ≤ 2 ^ 63
small z h = omega (arith, signed_arith, one_part z)

fits_small : (z : ℤ) → unsigned_abs z < 2 ^ 127 → FitsSigned w128 z
fits_small z h = omega (arith, signed_arith)

product_small : (count : ℤ) (length : ℕ) → FitsSigned w64 count → length ≤ 604_800_000_000 → unsigned_abs (count *ℤ pos length) ≤ 2 ^ 63 * 604_800_000_000
product_small count length h k = rw unsigned_abs-product (mul-le-mul (small count h) k)

sum_small : (a b : ℤ) → unsigned_abs (a +ℤ b) ≤ unsigned_abs a + unsigned_abs b
sum_small a b = omega (arith, signed_arith, one_part a, one_part b, one_part (a +ℤ b))

pub count_fits : (z : ℤ) → FitsSigned w64 z → FitsSigned w128 z
count_fits z h = let s = small z h in fits_small z (omega arith)

pub length_fits : (length : ℕ) → length ≤ 604_800_000_000 → FitsSigned w128 (pos length)
length_fits length h = omega (arith, signed_arith)

pub distance_fits : (count : ℤ) (length : ℕ) → FitsSigned w64 count → length ≤ 604_800_000_000 → FitsSigned w128 (count *ℤ pos length)
distance_fits count length h k = let s = product_small count length h k in fits_small (count *ℤ pos length) (omega arith)

pub sum_fits : (time count : ℤ) (length : ℕ) → FitsSigned w64 time → FitsSigned w64 count → length ≤ 604_800_000_000 → FitsSigned w128 (time +ℤ count *ℤ pos length)
sum_fits time count length g h k =
    let s = product_small count length h k in
    let t = small time g in
    let b = sum_small time (count *ℤ pos length) in
    fits_small (time +ℤ count *ℤ pos length) (omega arith)
