-- The starts of parts of times, and the greatest that isn't after a time.
use Rattle.std.specs.Prelude.{◌≡◌, ℕ, ◌+◌, ◌*◌, ℤ, pos, ◌*ℤ◌, ◌≤ℤ◌}
use Rattle.std.specs.Int.{IsInRange}
use Rattle.jiff_core.specs.Calendar.{days_from_civil, weekday_number}
use Rattle.time_meaning.specs.Moments.{IsTime}
use Rattle.tree_meaning.specs.declared.Part.{Part}
use Rattle.tree_meaning.specs.declared.Part.TheVariants as part
use Rattle.eval_meaning.specs.Times.{midnight, trunc}

-- a multiple of a length
abbrev pub IsMultiple : ℕ → ℤ → Type 0
IsMultiple length z = (k : ℤ) × (z ≡ k *ℤ pos length)

-- the first moment of a Monday
abbrev pub IsMonday : ℤ → Type 0
IsMonday z = (day : ℤ) × (z ≡ midnight day) × (weekday_number day ≡ 0)

-- the first moment of a month of the calendar, of the months for which it is asked
pub record IsFirstOf (Months : ℕ → Type 0) (z : ℤ) : Type 0 where
  pub year : ℕ
  pub month : ℕ
  pub year_in : IsInRange 1 9999 year
  pub month_in : IsInRange 1 12 month
  pub among : Months month
  pub is : z ≡ midnight (days_from_civil (pos year) month 1)

-- January, April, July, October
abbrev pub BeginsQuarter : ℕ → Type 0
BeginsQuarter month = (k : ℕ) × (month ≡ 3 * k + 1)

abbrev pub IsAny : ℕ → Type 0
IsAny month = Unit {0}

abbrev pub IsJanuary : ℕ → Type 0
IsJanuary month = month ≡ 1

-- starts of seconds to weeks are multiples of a length, weeks counted from a Monday; months, quarters and years are the
-- calendar's
abbrev pub IsStart : Part → ℤ → Type 0
IsStart part.Microsecond z = Unit {0}
IsStart part.Second z = IsMultiple 1_000_000 z
IsStart part.Minute z = IsMultiple 60_000_000 z
IsStart part.Hour z = IsMultiple 3_600_000_000 z
IsStart part.Day z = IsMultiple 86_400_000_000 z
IsStart part.Week z = IsMonday z
IsStart part.Month z = IsFirstOf IsAny z
IsStart part.Quarter z = IsFirstOf BeginsQuarter z
IsStart part.Year z = IsFirstOf IsJanuary z

-- the greatest start that isn't after the time
pub record IsGreatestStart (Start : ℤ → Type 0) (t z : ℤ) : Type 0 where
  pub starts : Start z
  pub before : z ≤ℤ t
  pub greatest : (w : ℤ) → Start w → w ≤ℤ t → w ≤ℤ z

abbrev pub TruncIsGreatestStart : Type 0
TruncIsGreatestStart = (part : Part) (t : ℤ) → IsTime t → IsGreatestStart (IsStart part) t (trunc part t)
