-- Bounds and an entry's times that have no number in common.
use Rattle.std.proofs.Common.{◌≡◌, ℤ, Bool, true, false, refl, ◌∙◌, arith}
use Rattle.std.specs.Prelude.{◌↔◌, ◌≤ℤ◌, ◌<ℤ◌, IsTrue, int_lt, FitsSigned}
use Rattle.std.proofs.Common.{to_z, of_z, w64}
use Rattle.std.specs.Int.{int_min, int_max}
use Rattle.std.proofs.lemmas.Int.{ints, clamps, to_z-of_z}
use Rattle.file_meaning.specs.Files.{Entry}
use Rattle.range_meaning.specs.declared.Bounds.TheVariants.{Between}
use Rattle.range_meaning.specs.Excluded.{IsExcluded}

-- the greater of the lower ends is above the lesser of the upper ends
pub apart_is : (e : Entry) (low high : ℤ) → (int_min e.greatest high <ℤ int_max e.least low) → IsExcluded e (Between low high)
apart_is e low high h = record {
  bound = λ is. cc;
  apart = λ t lies within. let from = within.not_below in let to = within.not_above in omega (arith, ints, clamps);
}

pub apart_was : (e : Entry) (low high : ℤ) → IsExcluded e (Between low high) → (int_min e.greatest high <ℤ int_max e.least low)
apart_was e low high excluded = go (int_lt (int_min e.greatest high) (int_max e.least low)) refl
  where
    go : (b : Bool) → int_lt (int_min e.greatest high) (int_max e.least low) ≡ b → (int_min e.greatest high <ℤ int_max e.least low)
    go true is = grind (arith, ints)
    go false is =
        let above : int_max e.least low ≤ℤ int_min e.greatest high = grind (arith, ints) in
        absurd (excluded.apart (int_max e.least low) (omega (arith, ints, clamps), omega (arith, ints, clamps)) (record { not_below = omega (arith, ints, clamps); not_above = omega (arith, ints, clamps) }))

-- the test is the order
pub less_is : (m n x y : ℤ) → FitsSigned w64 m → FitsSigned w64 n → m ≡ x → n ≡ y → IsTrue (int_lt (to_z w64 (of_z w64 m)) (to_z w64 (of_z w64 n))) ↔ (x <ℤ y)
less_is m n x y f g p q =
    let a : to_z w64 (of_z w64 m) ≡ x = to_z-of_z w64 m f ∙ p in
    let b : to_z w64 (of_z w64 n) ≡ y = to_z-of_z w64 n g ∙ q in
    rw (a, b) (order_is x y)
  where
    order_is : (x y : ℤ) → IsTrue (int_lt x y) ↔ (x <ℤ y)
    order_is x y = (λ h. grind (arith, ints), λ h. grind (arith, ints))
