-- Parts of times: DATE_TRUNC, EXTRACT, DATE_ADD, TO_UNIX_EPOCH, TO_UNIX_MICRO.
use Rattle.std.specs.Prelude.{ℕ, ◌+◌, ◌-◌, ◌*◌, ◌/◌, ◌%◌, ℤ, pos, ◌+ℤ◌, ◌-ℤ◌, ◌*ℤ◌, Option, None, Some, if◌then◌else◌}
use Rattle.std.specs.Int.{int_div_euclid}
use Rattle.jiff_core.specs.Calendar.{days_from_civil, weekday_number}
use Rattle.time_meaning.specs.Moments.{is_time}
use Rattle.time_meaning.specs.Dates.{year_of, month_of, day_of}
use Rattle.time_meaning.specs.Printed.{day_at, micros_at}
use Rattle.value_meaning.specs.Val.{Val, missing, int, time}
use Rattle.tree_meaning.specs.declared.Part.{Part}
use Rattle.tree_meaning.specs.declared.Part.TheVariants as part
use Rattle.eval_meaning.specs.Operands.{of_one, of_two, on_time, on_date}

-- the time, if the calendar's range has it
abbrev pub timed : ℤ → Val
timed t = if is_time t then time t else missing

-- the first moment of a day
abbrev pub midnight : ℤ → ℤ
midnight day = day *ℤ pos 86_400_000_000

-- the greatest multiple of a length that isn't after the time
abbrev pub last_multiple : ℕ → ℤ → ℤ
last_multiple length t = int_div_euclid t (pos length) *ℤ pos length

-- the Monday that isn't after the day
abbrev pub monday_of : ℤ → ℤ
monday_of day = day -ℤ pos (weekday_number day)

-- the first day of its month, of its quarter, and of its year
abbrev pub month_start : ℤ → ℤ
month_start day = days_from_civil (pos (year_of day)) (month_of day) 1

abbrev pub quarter_start : ℤ → ℤ
quarter_start day = days_from_civil (pos (year_of day)) ((month_of day - 1) / 3 * 3 + 1) 1

abbrev pub year_start : ℤ → ℤ
year_start day = days_from_civil (pos (year_of day)) 1 1

-- the greatest start of such a part that isn't after the time
unfoldable pub trunc : Part → ℤ → ℤ
trunc part.Microsecond t = t
trunc part.Second t = last_multiple 1_000_000 t
trunc part.Minute t = last_multiple 60_000_000 t
trunc part.Hour t = last_multiple 3_600_000_000 t
trunc part.Day t = midnight (day_at t)
trunc part.Week t = midnight (monday_of (day_at t))
trunc part.Month t = midnight (month_start (day_at t))
trunc part.Quarter t = midnight (quarter_start (day_at t))
trunc part.Year t = midnight (year_start (day_at t))

-- what a calendar and a clock in UTC show; they show no week
unfoldable pub extract : Part → ℤ → Option ℕ
extract part.Microsecond t = Some (micros_at t % 1_000_000)
extract part.Second t = Some (micros_at t / 1_000_000 % 60)
extract part.Minute t = Some (micros_at t / 60_000_000 % 60)
extract part.Hour t = Some (micros_at t / 3_600_000_000)
extract part.Day t = Some (day_of (day_at t))
extract part.Week t = None
extract part.Month t = Some (month_of (day_at t))
extract part.Quarter t = Some ((month_of (day_at t) - 1) / 3 + 1)
extract part.Year t = Some (year_of (day_at t))

-- the microseconds of a part; months, quarters and years have no one length
abbrev pub length_of : Part → Option ℕ
length_of part.Microsecond = Some 1
length_of part.Second = Some 1_000_000
length_of part.Minute = Some 60_000_000
length_of part.Hour = Some 3_600_000_000
length_of part.Day = Some 86_400_000_000
length_of part.Week = Some 604_800_000_000
length_of part.Month = None
length_of part.Quarter = None
length_of part.Year = None

abbrev pub counted : Option ℕ → Val
counted None = missing
counted (Some n) = int (pos n)

abbrev pub moved : Option ℕ → ℤ → ℤ → Val
moved None count t = missing
moved (Some length) count t = timed (t +ℤ count *ℤ pos length)

-- a rule for a number and a time
abbrev pub on_count_and_time : (ℤ → ℤ → Val) → Val → Val → Val
on_count_and_time rule (int n) (time t) = rule n t
on_count_and_time rule v w = missing

-- DATE_TRUNC
abbrev pub trunc_of : Part → Val → Val
trunc_of part = of_one (on_date (λ t. time (trunc part t)))

-- EXTRACT
abbrev pub extract_of : Part → Val → Val
extract_of part = of_one (on_date (λ t. counted (extract part t)))

-- DATE_ADD: the time plus the number times the part; MISSING out of range
abbrev pub shift_of : Part → Val → Val → Val
shift_of part = of_two (on_count_and_time (moved (length_of part)))

-- TO_UNIX_EPOCH: whole seconds, cut down
abbrev pub unix_epoch : Val → Val
unix_epoch = of_one (on_time (λ t. int (int_div_euclid t (pos 1_000_000))))

-- TO_UNIX_MICRO
abbrev pub unix_micro : Val → Val
unix_micro = of_one (on_time (λ t. int t))
