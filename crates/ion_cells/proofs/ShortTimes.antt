-- Timestamps of a fixed shape: UTC, and each field down to the second.
use Rattle.std.proofs.Common.{◌≡◌, ◌<◌, ◌≤◌, ◌+◌, ◌-◌, ◌*◌, ℕ, List, [], ◌∷◌, length, get_or, true, false, refl, arith, ltb}
use Rattle.std.proofs.lemmas.Bool.Decides.{nat_tests}
use Rattle.block_meaning.specs.Numbers.{var_uint, var_int}
use Rattle.block_meaning.specs.Timestamps.{timestamp, or_least, clock, fraction, moment_of}

-- a byte below 128 goes on, one from 128 on is the last
goes_on : (b : ℕ) → b < 128 → ltb b 128 ≡ true
goes_on b h = grind (arith, nat_tests, h)

is_last : (b : ℕ) → 128 ≤ b → ltb b 128 ≡ false
is_last b h = grind (arith, nat_tests, h)

none_before : (b : ℕ) → 0 * 128 + b ≡ b
none_before b = omega arith

-- the payload of a time in UTC with whole seconds, whose year has two bytes
short_bytes : (century year month day hour minute second : ℕ) → century < 128 → 128 ≤ year → 128 ≤ month → 128 ≤ day → 128 ≤ hour → 128 ≤ minute → 128 ≤ second → timestamp (128 ∷ century ∷ year ∷ month ∷ day ∷ hour ∷ minute ∷ second ∷ []) ≡ moment_of (century * 128 + (year - 128)) (month - 128) (day - 128) (hour - 128) (minute - 128) (second - 128) 0
unfolding timestamp var_int var_uint or_least clock fraction
short_bytes century year month day hour minute second c y m d h i s =
    rw (goes_on century c, is_last year y, is_last month m, is_last day d, is_last hour h, is_last minute i, is_last second s, none_before century, none_before (month - 128), none_before (day - 128), none_before (hour - 128), none_before (minute - 128), none_before (second - 128)) refl

-- the same by its places
pub short_time : (p : List ℕ) → length p ≡ 8 → get_or p 0 0 ≡ 128 → get_or p 1 0 < 128 → 128 ≤ get_or p 2 0 → 128 ≤ get_or p 3 0 → 128 ≤ get_or p 4 0 → 128 ≤ get_or p 5 0 → 128 ≤ get_or p 6 0 → 128 ≤ get_or p 7 0 → timestamp p ≡ moment_of (get_or p 1 0 * 128 + (get_or p 2 0 - 128)) (get_or p 3 0 - 128) (get_or p 4 0 - 128) (get_or p 5 0 - 128) (get_or p 6 0 - 128) (get_or p 7 0 - 128) 0
short_time [] n z c y m d h i s = absurd (omega (arith, n))
short_time (z ∷ []) n e c y m d h i s = absurd (omega (arith, n))
short_time (z ∷ pc ∷ []) n e c y m d h i s = absurd (omega (arith, n))
short_time (z ∷ pc ∷ py ∷ []) n e c y m d h i s = absurd (omega (arith, n))
short_time (z ∷ pc ∷ py ∷ pm ∷ []) n e c y m d h i s = absurd (omega (arith, n))
short_time (z ∷ pc ∷ py ∷ pm ∷ pd ∷ []) n e c y m d h i s = absurd (omega (arith, n))
short_time (z ∷ pc ∷ py ∷ pm ∷ pd ∷ ph ∷ []) n e c y m d h i s = absurd (omega (arith, n))
short_time (z ∷ pc ∷ py ∷ pm ∷ pd ∷ ph ∷ pi ∷ []) n e c y m d h i s = absurd (omega (arith, n))
short_time (z ∷ pc ∷ py ∷ pm ∷ pd ∷ ph ∷ pi ∷ ps ∷ []) n e c y m d h i s =
    rw e (short_bytes pc py pm pd ph pi ps c y m d h i s)
short_time (z ∷ pc ∷ py ∷ pm ∷ pd ∷ ph ∷ pi ∷ ps ∷ x ∷ xs) n e c y m d h i s = absurd (omega (arith, n))
