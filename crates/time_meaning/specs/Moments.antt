-- Times: counts of microseconds from 1970-01-01T00:00:00Z on, in the proleptic Gregorian calendar.
use Rattle.std.specs.Prelude.{ℕ, ◌+◌, ◌*◌, Bool, ◌&&◌, ℤ, pos, neg_ℤ, ◌+ℤ◌, ◌*ℤ◌, int_le, nat_le}
use Rattle.jiff_core.specs.Calendar.{days_from_civil, days_in_month, IsBetween}

-- from 0001-01-01T00:00:00Z to 9999-12-31T23:59:59.999999Z
abbrev pub IsTime : ℤ → Type 0
IsTime t = IsBetween (neg_ℤ (pos 62_135_596_800_000_000)) (pos 253_402_300_799_999_999) t

-- the same, as a test
abbrev pub is_time : ℤ → Bool
is_time t = int_le (neg_ℤ (pos 62_135_596_800_000_000)) t && int_le t (pos 253_402_300_799_999_999)

-- the moment at which a calendar and a clock in UTC show this
unfoldable pub moment : ℕ → ℕ → ℕ → ℕ → ℕ → ℕ → ℕ → ℤ
moment year month day hour minute second micros =
    days_from_civil (pos year) month day *ℤ pos 86_400_000_000 +ℤ pos (((hour * 60 + minute) * 60 + second) * 1_000_000 + micros)

-- the calendar has the date, from the year `first` to the year 9999, and the clock shows the time
unfoldable pub is_real : ℕ → ℕ → ℕ → ℕ → ℕ → ℕ → ℕ → Bool
is_real first year month day hour minute second =
    nat_le first year && nat_le year 9999 && nat_le 1 month && nat_le month 12 && nat_le 1 day
    && nat_le day (days_in_month (pos year) month) && nat_le hour 23 && nat_le minute 59 && nat_le second 59
