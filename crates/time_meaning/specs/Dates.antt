-- The date of a day number, where day 0 is 1970-01-01.
use Rattle.std.specs.Prelude.{ℕ, zero, suc, ◌+◌, Bool, ℤ, pos, ◌-ℤ◌, int_le, unsigned_abs, if◌then◌else◌}
use Rattle.jiff_core.specs.Calendar.{days_from_civil}

-- the greatest number up to a bound that passes a test
abbrev pub latest : (ℕ → Bool) → ℕ → ℕ
latest test zero = zero
latest test (suc n) = if test (suc n) then suc n else latest test n

-- the year that began last
unfoldable pub year_of : ℤ → ℕ
year_of day = latest (λ n. int_le (days_from_civil (pos n) 1 1) day) 9999

-- the month of that year that began last
unfoldable pub month_of : ℤ → ℕ
month_of day = latest (λ n. int_le (days_from_civil (pos (year_of day)) n 1) day) 12

-- the place in that month, from 1
unfoldable pub day_of : ℤ → ℕ
day_of day = unsigned_abs (day -ℤ days_from_civil (pos (year_of day)) (month_of day) 1) + 1
