-- Laws of times.
use Rattle.std.specs.Prelude.{◌≡◌, ℕ, pos}
use Rattle.jiff_core.specs.Calendar.{days_from_civil, IsCivilDate}
use Rattle.time_meaning.specs.Dates.{year_of, month_of, day_of}

-- each date from the year 1 on is the one of its day number
abbrev pub DatesOfDays : Type 0
DatesOfDays =
    (y m d : ℕ) → IsCivilDate (pos y) m d
    → (year_of (days_from_civil (pos y) m d) ≡ y) × (month_of (days_from_civil (pos y) m d) ≡ m) × (day_of (days_from_civil (pos y) m d) ≡ d)
