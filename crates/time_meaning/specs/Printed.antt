-- How a time is printed: `YYYY-MM-DDTHH:MM:SSZ`, with `.` and six digits before `Z` where microseconds are left.
use Rattle.std.specs.Prelude.{ℕ, ◌+◌, ◌/◌, ◌%◌, ℤ, pos, List, [], ◌∷◌, ◌++◌, ◌==◌, if◌then◌else◌, unsigned_abs}
use Rattle.std.specs.Int.{int_div_euclid, int_rem_euclid}
use Rattle.time_meaning.specs.Dates.{year_of, month_of, day_of}

-- the last decimal digit
abbrev pub digit : ℕ → ℕ
digit n = n % 10 + 48

abbrev pub two : ℕ → List ℕ
two n = digit (n / 10) ∷ digit n ∷ []

abbrev pub four : ℕ → List ℕ
four n = two (n / 100) ++ two n

abbrev pub six : ℕ → List ℕ
six n = two (n / 10_000) ++ four n

-- `YYYY-MM-DDTHH:MM:SS`
abbrev pub to_second : ℕ → ℕ → ℕ → ℕ → ℕ → ℕ → List ℕ
to_second year month day hour minute second =
    four year ++ 45 ∷ two month ++ 45 ∷ two day ++ 84 ∷ two hour ++ 58 ∷ two minute ++ 58 ∷ two second

-- `Z`, or `.`, six digits and `Z`
abbrev pub after_second : ℕ → List ℕ
after_second micros = if micros == 0 then 90 ∷ [] else 46 ∷ six micros ++ 90 ∷ []

-- the day on which the time lies
abbrev pub day_at : ℤ → ℤ
day_at t = int_div_euclid t (pos 86_400_000_000)

-- the microseconds from the start of that day on
abbrev pub micros_at : ℤ → ℕ
micros_at t = unsigned_abs (int_rem_euclid t (pos 86_400_000_000))

-- the text of a day and of the microseconds within it
abbrev pub day_text : ℤ → ℕ → List ℕ
day_text day micros =
    to_second (year_of day) (month_of day) (day_of day) (micros / 1_000_000 / 3600) (micros / 1_000_000 / 60 % 60) (micros / 1_000_000 % 60)
    ++ after_second (micros % 1_000_000)

-- the text of a time
unfoldable pub time_text : ℤ → List ℕ
time_text t = day_text (day_at t) (micros_at t)
