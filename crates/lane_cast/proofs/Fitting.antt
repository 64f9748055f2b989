-- Results in the range of a row's numbers.
use Rattle.std.proofs.Common.{◌≡◌, ℕ, zero, suc, ℤ, pos, neg_ℤ, ◌-ℤ◌, replicate, refl, sym, ap, ◌∙◌, arith, Bool, true, false, not, subst, ◌*ℤ◌, FitsSigned, w64, to_z, of_z, to_z-of_z}
use Rattle.std.specs.Bool.{FalseIff}
use Rattle.std.specs.Int.{int_wrap, int_wrapping_mul}
use Rattle.std.proofs.lemmas.Int.{ints, wrapping_mul_is, SFits-int_wrap, int_wrap_fits}
use Rattle.value_meaning.specs.Val.{missing, int}
use Rattle.eval_meaning.specs.Numbers.{fits, fitted}
use Rattle.lane_base.specs.Registers.{number_at}
use Rattle.lane_cast.specs.Made.{number_if}

pub fits-true : (z : ℤ) → FitsSigned w64 z → fits z ≡ true
fits-true z h = grind (arith, ints)

pub fits-false : (z : ℤ) → ¬ (FitsSigned w64 z) → fits z ≡ false
fits-false z h = grind (arith, ints)

pub fitted-in : (s z : ℤ) → FitsSigned w64 s → z ≡ s → int z ≡ fitted s
fitted-in s z h e = rw (fits-true s h) (ap int e)

pub fitted-out : (s : ℤ) → ¬ (FitsSigned w64 s) → missing ≡ fitted s
fitted-out s h = rw (fits-false s h) refl

pub unless_wrapped : (s z : ℤ) (wraps : Bool) → (FitsSigned w64 s → z ≡ s) → FalseIff wraps (FitsSigned w64 s) → number_if (not wraps) z ≡ fitted s
unless_wrapped s z true e h = fitted-out s h
unless_wrapped s z false e h = fitted-in s z h (e h)

-- a product that was computed in 64 bits
pub multiplied : (x y z : ℤ) (wraps : Bool) → FitsSigned w64 x → FitsSigned w64 y → z ≡ int_wrapping_mul w64 x y
    → FalseIff wraps (FitsSigned w64 (x *ℤ y)) → number_if (not wraps) (to_z w64 (of_z w64 z)) ≡ fitted (x *ℤ y)
multiplied x y z wraps fits_x fits_y e over =
    let wrapped : z ≡ int_wrap w64 (x *ℤ y) = e ∙ wrapping_mul_is w64 x y fits_x fits_y in
    let fits_z : FitsSigned w64 z = subst (FitsSigned w64) (sym wrapped) (SFits-int_wrap w64 (x *ℤ y)) in
    unless_wrapped (x *ℤ y) (to_z w64 (of_z w64 z)) wraps (λ h. to_z-of_z {w = w64} fits_z ∙ wrapped ∙ int_wrap_fits w64 (x *ℤ y) h) over

-- a number taken from 0
pub zeros_at : (n i : ℕ) → number_at (replicate n (pos 0)) i ≡ pos 0
zeros_at zero i = refl
zeros_at (suc n) zero = refl
zeros_at (suc n) (suc i) = zeros_at n i

pub zero_minus : (z : ℤ) → pos 0 -ℤ z ≡ neg_ℤ z
zero_minus z = omega (arith, ints)
