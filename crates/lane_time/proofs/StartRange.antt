-- The start of a part of a time in range lies in range: the calendar's first moment starts each part.
use Rattle.std.proofs.Common.{◌≡◌, ℤ, pos, neg_ℤ, refl, ap, sym, arith}
use Rattle.jiff_core.specs.Calendar.{days_from_civil, weekday_number, day_count}
use Rattle.jiff_core.proofs.MarchLemmas.{day_count-early}
use Rattle.jiff_core.proofs.CalendarLemmas.{days_from_civil-day_count}
use Rattle.jiff_core.proofs.SignedLemmas.{signed_arith}
use Rattle.time_meaning.specs.Moments.{IsTime}
use Rattle.tree_meaning.specs.declared.Part.{Part}
use Rattle.tree_meaning.specs.declared.Part.TheVariants as part
use Rattle.eval_meaning.specs.Times.{midnight, trunc}
use Rattle.eval_meaning.specs.Starts.{IsStart, IsFirstOf, IsAny, BeginsQuarter, IsJanuary}
use Rattle.eval_meaning.proofs.Truncation.{trunc_is}
use Rattle.std.specs.Prelude.{ℕ}

abbrev first : ℤ
first = neg_ℤ (pos 62_135_596_800_000_000)

year_one : day_count (pos 1) 1 1 ≡ 3_652_791
year_one = day_count-early (pos 1) 10_000 1 1 refl (omega arith) (omega arith) (omega arith)

first_day : days_from_civil (pos 1) 1 1 ≡ neg_ℤ (pos 719_162)
first_day = omega (arith, signed_arith, year_one, days_from_civil-day_count (pos 1) 1 1)

first_month : (Months : ℕ → Type 0) → Months 1 → IsFirstOf Months first
first_month Months h = record {
  year = 1;
  month = 1;
  year_in = (omega arith, omega arith);
  month_in = (omega arith, omega arith);
  among = h;
  is = sym (ap midnight first_day);
}

first_monday : weekday_number (neg_ℤ (pos 719_162)) ≡ 0
unfolding weekday_number
first_monday = refl

first_starts : (p : Part) → IsStart p first
first_starts part.Microsecond = tt
first_starts part.Second = (neg_ℤ (pos 62_135_596_800), refl)
first_starts part.Minute = (neg_ℤ (pos 1_035_593_280), refl)
first_starts part.Hour = (neg_ℤ (pos 17_259_888), refl)
first_starts part.Day = (neg_ℤ (pos 719_162), refl)
first_starts part.Week = (neg_ℤ (pos 719_162), refl, first_monday)
first_starts part.Month = first_month IsAny tt
first_starts part.Quarter = first_month BeginsQuarter (0, refl)
first_starts part.Year = first_month IsJanuary refl

pub start_in_range : (p : Part) (t : ℤ) → IsTime t → IsTime (trunc p t)
start_in_range p t h =
    let s = trunc_is p t h in
    let before = s.before in
    let after = s.greatest first (first_starts p) h.0 in
    (after, omega (arith, signed_arith, before, h.1))
