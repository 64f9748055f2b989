-- The texts that spell times: `YYYY-MM-DD`, `T`, `t` or a space, `HH:MM:SS`, maybe `.` and 1 to 9 digits, and `Z`, `z`, `+HH:MM` or `-HH:MM`.
use Rattle.std.specs.Prelude.{ℕ, suc, ◌+◌, ◌-◌, ◌*◌, ◌/◌, ◌^◌, Bool, ◌&&◌, ◌||◌, ◌==◌, nat_le, ℤ, pos, neg_ℤ, ◌-ℤ◌, ◌*ℤ◌, List, [], ◌∷◌, Option, Some, None, if◌then◌else◌}
use Rattle.std.specs.Option.{option_map, option_and_then}
use Rattle.time_meaning.specs.Moments.{moment, is_real, is_time}

abbrev pub is_digit : ℕ → Bool
is_digit b = nat_le 48 b && nat_le b 57

-- the digit at the front, and what follows it
unfoldable pub one_at : List ℕ → Option (ℕ × List ℕ)
one_at [] = None
one_at (b ∷ bs) = if is_digit b then Some (b - 48, bs) else None

-- the number that two digits spell
unfoldable pub two_at : List ℕ → Option (ℕ × List ℕ)
two_at bytes = option_and_then (λ a. option_map (λ b. (a.0 * 10 + b.0, b.1)) (one_at a.1)) (one_at bytes)

unfoldable pub four_at : List ℕ → Option (ℕ × List ℕ)
four_at bytes = option_and_then (λ a. option_map (λ b. (a.0 * 100 + b.0, b.1)) (two_at a.1)) (two_at bytes)

-- what follows this byte, if it stands at the front
unfoldable pub behind : ℕ → List ℕ → Option (List ℕ)
behind byte [] = None
behind byte (b ∷ bs) = if b == byte then Some bs else None

-- a sign and two digits
unfoldable pub next_two : ℕ → List ℕ → Option (ℕ × List ℕ)
next_two sign bytes = option_and_then two_at (behind sign bytes)

-- year, month, day
unfoldable pub date_at : List ℕ → Option (ℕ × ℕ × ℕ × List ℕ)
date_at bytes =
    option_and_then (λ y. option_and_then (λ m. option_map (λ d. (y.0, m.0, d.0, d.1)) (next_two 45 m.1)) (next_two 45 y.1)) (four_at bytes)

-- hour, minute, second
unfoldable pub clock_at : List ℕ → Option (ℕ × ℕ × ℕ × List ℕ)
clock_at bytes =
    option_and_then (λ h. option_and_then (λ m. option_map (λ s. (h.0, m.0, s.0, s.1)) (next_two 58 m.1)) (next_two 58 h.1)) (two_at bytes)

-- what follows the sign between a date and a clock time
unfoldable pub behind_date : List ℕ → Option (List ℕ)
behind_date [] = None
behind_date (b ∷ bs) = if b == 84 || b == 116 || b == 32 then Some bs else None

-- the digits at the front: how many, what they spell, and what follows them
abbrev pub digits_at : List ℕ → ℕ → ℕ → ℕ × ℕ × List ℕ
digits_at [] count so_far = (count, so_far, [])
digits_at (b ∷ bs) count so_far = if is_digit b then digits_at bs (suc count) (so_far * 10 + (b - 48)) else (count, so_far, b ∷ bs)

-- the microseconds of a fraction of a second, where 1 to 9 digits spell it; those past the sixth are cut off
abbrev pub cut : ℕ × ℕ × List ℕ → Option (ℕ × List ℕ)
cut d = if nat_le 1 d.0 && nat_le d.0 9 then Some (d.1 * 1_000_000 / 10 ^ d.0, d.2) else None

unfoldable pub fraction_at : List ℕ → Option (ℕ × List ℕ)
fraction_at [] = Some (0, [])
fraction_at (b ∷ bs) = if b == 46 then cut (digits_at bs 0 0) else Some (0, b ∷ bs)

-- the minutes by which a local clock is ahead of UTC, where the text ends with them
abbrev pub ended : ℤ → List ℕ → Option ℤ
ended minutes [] = Some minutes
ended minutes (b ∷ bs) = None

unfoldable pub shift_at : List ℕ → Option (ℕ × List ℕ)
shift_at bytes =
    option_and_then (λ h. option_and_then (λ m. if nat_le h.0 23 && nat_le m.0 59 then Some (h.0 * 60 + m.0, m.1) else None) (next_two 58 h.1)) (two_at bytes)

unfoldable pub zone_at : List ℕ → Option ℤ
zone_at [] = None
zone_at (b ∷ bs) =
    if b == 90 || b == 122 then ended (pos 0) bs
    else (if b == 43 then option_and_then (λ s. ended (pos s.0) s.1) (shift_at bs)
    else (if b == 45 then option_and_then (λ s. ended (neg_ℤ (pos s.0)) s.1) (shift_at bs) else None))

-- the moment, if it is in range
abbrev pub in_range : ℤ → Option ℤ
in_range t = if is_time t then Some t else None

-- the moment that a local clock shows which is so many minutes ahead of UTC; the calendar has the year 0
unfoldable pub local_time : ℕ → ℕ → ℕ → ℕ → ℕ → ℕ → ℕ → ℤ → Option ℤ
local_time year month day hour minute second micros ahead =
    if is_real 0 year month day hour minute second
    then in_range (moment year month day hour minute second micros -ℤ ahead *ℤ pos 60_000_000) else None

-- the time that the text spells
unfoldable pub time_of : List ℕ → Option ℤ
time_of text =
    option_and_then (λ d. option_and_then (λ r. option_and_then (λ c. option_and_then (λ f. option_and_then
    (λ z. local_time d.0 d.1 d.2 c.0 c.1 c.2 f.0 z)
    (zone_at f.1)) (fraction_at c.3)) (clock_at r)) (behind_date d.3)) (date_at text)
