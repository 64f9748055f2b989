-- The digits of a printed time are read back.
use Rattle.std.proofs.Common.{◌≡◌, ℕ, suc, ◌+◌, ◌-◌, ◌*◌, ◌/◌, ◌%◌, ◌^◌, ◌<◌, List, [], ◌∷◌, ◌++◌, Bool, true, false, cond, pos, Option, Some, refl, ap, ◌∙◌, arith}
use Rattle.std.specs.Prelude.{◌==◌}
use Rattle.std.proofs.lemmas.Bool.Decides.{nat_tests}
use Rattle.time_meaning.specs.Printed.{digit, two, four, six, after_second}
use Rattle.time_meaning.specs.Texts.{is_digit, one_at, two_at, four_at, behind, next_two, date_at, clock_at, digits_at, cut, fraction_at, zone_at}

digit_is : (n : ℕ) → is_digit (n % 10 + 48) ≡ true
digit_is n = let below : n % 10 < 10 = omega arith in go (n % 10) below
  where
    go : (k : ℕ) → k < 10 → is_digit (k + 48) ≡ true
    go k h = grind (arith, nat_tests)

one_back : (n : ℕ) (rest : List ℕ) → one_at (digit n ∷ rest) ≡ Some (n % 10, rest)
unfolding one_at
one_back n rest = let less : n % 10 + 48 - 48 ≡ n % 10 = omega arith in rw (digit_is n, less) refl

two_any : (n : ℕ) (rest : List ℕ) → two_at (two n ++ rest) ≡ Some (n % 100, rest)
unfolding two_at
two_any n rest = let same : n / 10 % 10 * 10 + n % 10 ≡ n % 100 = omega arith in rw (one_back (n / 10) (digit n ∷ rest), one_back n rest, same) refl

two_back : (n : ℕ) (rest : List ℕ) → n < 100 → two_at (two n ++ rest) ≡ Some (n, rest)
two_back n rest h = let same : n % 100 ≡ n = omega arith in two_any n rest ∙ ap (λ (k : ℕ). let r : Option (ℕ × List ℕ) = Some (k, rest) in r) same

four_back : (n : ℕ) (rest : List ℕ) → n < 10_000 → four_at (four n ++ rest) ≡ Some (n, rest)
unfolding four_at
four_back n rest h =
    let same : n / 100 * 100 + n % 100 ≡ n = omega arith in
    rw (two_back (n / 100) (two n ++ rest) (omega arith), two_any n rest, same) refl

next_back : (sign n : ℕ) (rest : List ℕ) → n < 100 → next_two sign (sign ∷ two n ++ rest) ≡ Some (n, rest)
unfolding next_two behind
next_back sign n rest h = let same : (sign == sign) ≡ true = grind (arith, nat_tests) in rw same (two_back n rest h)

pub date_back : (y m d : ℕ) (rest : List ℕ) → y < 10_000 → m < 100 → d < 100 → date_at (four y ++ 45 ∷ two m ++ 45 ∷ two d ++ rest) ≡ Some (y, m, d, rest)
unfolding date_at
date_back y m d rest h i j = rw (four_back y (45 ∷ two m ++ 45 ∷ two d ++ rest) h, next_back 45 m (45 ∷ two d ++ rest) i, next_back 45 d rest j) refl

pub clock_back : (h m s : ℕ) (rest : List ℕ) → h < 100 → m < 100 → s < 100 → clock_at (two h ++ 58 ∷ two m ++ 58 ∷ two s ++ rest) ≡ Some (h, m, s, rest)
unfolding clock_at
clock_back h m s rest i j k = rw (two_back h (58 ∷ two m ++ 58 ∷ two s ++ rest) i, next_back 58 m (58 ∷ two s ++ rest) j, next_back 58 s rest k) refl

digit_step : (n count so_far : ℕ) (rest : List ℕ) → digits_at (digit n ∷ rest) count so_far ≡ digits_at rest (suc count) (so_far * 10 + n % 10)
digit_step n count so_far rest = let less : n % 10 + 48 - 48 ≡ n % 10 = omega arith in rw (digit_is n, less) refl

six_back : (n : ℕ) (rest : List ℕ) → n < 1_000_000 → digits_at (six n ++ 90 ∷ rest) 0 0 ≡ (6, n, 90 ∷ rest)
six_back n rest h =
    let same : (((((0 * 10 + n / 10_000 / 10 % 10) * 10 + n / 10_000 % 10) * 10 + n / 100 / 10 % 10) * 10 + n / 100 % 10) * 10 + n / 10 % 10) * 10 + n % 10 ≡ n = omega arith in
    digit_step (n / 10_000 / 10) 0 (0) (digit (n / 10_000) ∷ digit (n / 100 / 10) ∷ digit (n / 100) ∷ digit (n / 10) ∷ digit n ∷ 90 ∷ rest)
    ∙ digit_step (n / 10_000) 1 (0 * 10 + n / 10_000 / 10 % 10) (digit (n / 100 / 10) ∷ digit (n / 100) ∷ digit (n / 10) ∷ digit n ∷ 90 ∷ rest)
    ∙ digit_step (n / 100 / 10) 2 ((0 * 10 + n / 10_000 / 10 % 10) * 10 + n / 10_000 % 10) (digit (n / 100) ∷ digit (n / 10) ∷ digit n ∷ 90 ∷ rest)
    ∙ digit_step (n / 100) 3 (((0 * 10 + n / 10_000 / 10 % 10) * 10 + n / 10_000 % 10) * 10 + n / 100 / 10 % 10) (digit (n / 10) ∷ digit n ∷ 90 ∷ rest)
    ∙ digit_step (n / 10) 4 ((((0 * 10 + n / 10_000 / 10 % 10) * 10 + n / 10_000 % 10) * 10 + n / 100 / 10 % 10) * 10 + n / 100 % 10) (digit n ∷ 90 ∷ rest)
    ∙ digit_step (n) 5 (((((0 * 10 + n / 10_000 / 10 % 10) * 10 + n / 10_000 % 10) * 10 + n / 100 / 10 % 10) * 10 + n / 100 % 10) * 10 + n / 10 % 10) (90 ∷ rest)
    ∙ ap (λ (k : ℕ). let r : ℕ × ℕ × List ℕ = (6, k, 90 ∷ rest) in r) same

fraction_some : (n : ℕ) (d : ℕ × ℕ × List ℕ) → d ≡ (6, n, 90 ∷ []) → cut d ≡ Some (n, 90 ∷ [])
fraction_some n d e = let same : n * 1_000_000 / 10 ^ 6 ≡ n = omega arith in rw (e, same) refl

pub fraction_back : (n : ℕ) → n < 1_000_000 → fraction_at (after_second n) ≡ Some (n, 90 ∷ [])
unfolding fraction_at
fraction_back n h = go (n == 0) refl
  where
    go : (b : Bool) → (n == 0) ≡ b → fraction_at (cond b (90 ∷ []) (46 ∷ six n ++ 90 ∷ [])) ≡ Some (n, 90 ∷ [])
    go true e = let same : 0 ≡ n = grind (arith, nat_tests) in ap (λ (k : ℕ). let r : Option (ℕ × List ℕ) = Some (k, 90 ∷ []) in r) same
    go false e = fraction_some n _ (six_back n [] h)

pub zone_back : zone_at (90 ∷ []) ≡ Some (pos 0)
unfolding zone_at
zone_back = refl
