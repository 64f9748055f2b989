-- A tenth digit is one too many.
use Rattle.std.proofs.Common.{◌≡◌, ℕ, suc, ◌<◌, ◌≤◌, Bool, true, false, cond, List, [], ◌∷◌, length, get_or, None, refl, arith}
use Rattle.std.specs.Prelude.{nat_le, ◌+◌, ◌-◌, ◌*◌}
use Rattle.std.proofs.lemmas.Bool.Decides.{nat_tests}
use Rattle.time_meaning.specs.Texts.{digits_at, is_digit}
use Rattle.time_text.specs.Few.{if_few}

-- the count of digits only grows
counted : (bs : List ℕ) (count so_far : ℕ) → count ≤ (digits_at bs count so_far).0
counted [] count so_far = omega arith
counted (b ∷ bs) count so_far = go (is_digit b) (counted bs (suc count) (so_far * 10 + (b - 48)))
  where
    go : (t : Bool) → suc count ≤ (digits_at bs (suc count) (so_far * 10 + (b - 48))).0 → count ≤ (cond t (digits_at bs (suc count) (so_far * 10 + (b - 48))) (let d : ℕ × ℕ × List ℕ = (count, so_far, b ∷ bs) in d)).0
    go true more = omega (arith, more)
    go false more = omega arith

none_few : (d : ℕ × ℕ × List ℕ) → 10 ≤ d.0 → None ≡ if_few d
none_few d h = let t : nat_le d.0 9 ≡ false = grind (arith, nat_tests) in rw t refl

pub too_many : (bs : List ℕ) (so_far : ℕ) → 0 < length bs → 48 ≤ get_or bs 0 0 → get_or bs 0 0 ≤ 57 → None ≡ if_few (digits_at bs 9 so_far)
too_many [] so_far h low high = absurd (omega arith)
too_many (b ∷ bs) so_far h low high =
    let t : is_digit b ≡ true = grind (arith, nat_tests) in
    rw t (none_few (digits_at bs 10 (so_far * 10 + (b - 48))) (counted bs 10 (so_far * 10 + (b - 48))))
