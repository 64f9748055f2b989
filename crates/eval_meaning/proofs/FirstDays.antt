-- The first day of a day's month, of its quarter and of its year is the greatest that isn't after it.
use Rattle.std.proofs.Common.{◌≡◌, ℕ, zero, suc, ◌+◌, ◌-◌, ◌*◌, ◌/◌, ◌<◌, ◌≤◌, Bool, true, false, ℤ, pos, neg_ℤ, ◌≤ℤ◌, refl, ap, arith, cond}
use Rattle.std.specs.Prelude.{int_le}
use Rattle.std.specs.Int.{IsInRange}
use Rattle.std.proofs.lemmas.Int.{ints, by_lt_z}
use Rattle.jiff_core.specs.Calendar.{days_from_civil, day_count, IsCivilDate}
use Rattle.jiff_core.proofs.MarchLemmas.{day_count-early}
use Rattle.jiff_core.proofs.CalendarLemmas.{days_from_civil-day_count, day_count-lt_year, day_count-lt_month, days_in_month_bounds}
use Rattle.jiff_core.proofs.SignedLemmas.{signed_arith}
use Rattle.time_meaning.specs.Moments.{IsTime}
use Rattle.time_meaning.specs.Dates.{latest, year_of, month_of}
use Rattle.time_meaning.specs.Printed.{day_at}
use Rattle.eval_meaning.specs.Times.{midnight, month_start, quarter_start, year_start}
use Rattle.eval_meaning.specs.Starts.{IsFirstOf, IsAny, BeginsQuarter, IsJanuary, IsGreatestStart}

-- the greatest number up to a bound that passes a test
module _ (test : ℕ → Bool) where
  pub latest_high : (bound : ℕ) → latest test bound ≤ bound
  latest_high zero = omega arith
  latest_high (suc n) = go (test (suc n)) (latest_high n)
    where
      go : (b : Bool) → latest test n ≤ n → cond b (suc n) (latest test n) ≤ suc n
      go true h = omega arith
      go false h = omega arith

  pub latest_low : (k bound : ℕ) → k ≤ bound → test k ≡ true → k ≤ latest test bound
  latest_low k zero h e = omega arith
  latest_low k (suc n) h e = go (test (suc n)) refl (latest_low k n)
    where
      go : (b : Bool) → test (suc n) ≡ b → (k ≤ n → test k ≡ true → k ≤ latest test n) → k ≤ cond b (suc n) (latest test n)
      go true f rest = h
      go false f rest =
          let apart : k ≡ suc n → ⊥ = λ s. (let w : test (suc n) ≡ true = rw (← s) e in cc) in
          rest (omega arith) e

  pub latest_passes : (bound : ℕ) → 0 < latest test bound → test (latest test bound) ≡ true
  latest_passes zero h = absurd (omega arith)
  latest_passes (suc n) h = go (test (suc n)) refl h (latest_passes n)
    where
      go : (b : Bool) → test (suc n) ≡ b → 0 < cond b (suc n) (latest test n) → (0 < latest test n → test (latest test n) ≡ true) → test (cond b (suc n) (latest test n)) ≡ true
      go true f g rest = f
      go false f g rest = rest g

is_le : (a b : ℤ) → a ≤ℤ b → int_le a b ≡ true
is_le a b h = grind (arith, ints)

le_of : (a b : ℤ) → int_le a b ≡ true → a ≤ℤ b
le_of a b h = grind (arith, ints)

year_one : day_count (pos 1) 1 1 ≡ 3_652_791
year_one = day_count-early (pos 1) 10_000 1 1 refl (omega arith) (omega arith) (omega arith)

first_of_all : days_from_civil (pos 1) 1 1 ≡ neg_ℤ (pos 719_162)
first_of_all = omega (arith, signed_arith, year_one, days_from_civil-day_count (pos 1) 1 1)

date_of_first : (y m : ℕ) → IsInRange 1 9999 y → IsInRange 1 12 m → IsCivilDate (pos y) m 1
date_of_first y m h k = ((omega (arith, signed_arith, h.0, h.1), omega (arith, signed_arith, h.0, h.1)), k, (omega arith, omega (arith, (days_in_month_bounds (pos y) m).1)))

-- the first days of months rise with the months, and with the years
month_rises : (y m n : ℕ) → IsInRange 1 9999 y → IsInRange 1 12 m → m < n → days_from_civil (pos y) m 1 ≤ℤ days_from_civil (pos y) n 1
month_rises y m n h k lt =
    let here = days_from_civil-day_count (pos y) m 1 in
    let there = days_from_civil-day_count (pos y) n 1 in
    let later = day_count-lt_month (pos y) m 1 n 1 (date_of_first y m h k) (omega arith) lt in
    omega (arith, signed_arith)

month_stays : (y m n : ℕ) → IsInRange 1 9999 y → IsInRange 1 12 m → m ≤ n → days_from_civil (pos y) m 1 ≤ℤ days_from_civil (pos y) n 1
month_stays y m n h k le = by_lt_z (pos m) (pos n) (λ lt. month_rises y m n h k (omega (arith, signed_arith)))
    (λ ge. (let same : m ≡ n = omega (arith, signed_arith) in rw same (omega (arith, signed_arith))))

year_rises : (x n y m : ℕ) → IsInRange 1 9999 x → IsInRange 1 12 n → x < y → days_from_civil (pos x) n 1 ≤ℤ days_from_civil (pos y) m 1
year_rises x n y m h k lt =
    let here = days_from_civil-day_count (pos x) n 1 in
    let there = days_from_civil-day_count (pos y) m 1 in
    let later = day_count-lt_year (pos x) n 1 (pos y) m 1 (date_of_first x n h k) (omega arith) (omega (arith, signed_arith)) in
    omega (arith, signed_arith)

-- the year and the month that began last
pub record Began (day : ℤ) : Type 0 where
  pub year_in : IsInRange 1 9999 (year_of day)
  pub month_in : IsInRange 1 12 (month_of day)
  pub month_began : days_from_civil (pos (year_of day)) (month_of day) 1 ≤ℤ day
  pub year_last : (x : ℕ) → x ≤ 9999 → days_from_civil (pos x) 1 1 ≤ℤ day → x ≤ year_of day
  pub month_last : (n : ℕ) → n ≤ 12 → days_from_civil (pos (year_of day)) n 1 ≤ℤ day → n ≤ month_of day

year_low : (day : ℤ) → neg_ℤ (pos 719_162) ≤ℤ day → 1 ≤ year_of day
unfolding year_of
year_low day h = latest_low (λ n. int_le (days_from_civil (pos n) 1 1) day) 1 9999 (omega arith) (is_le (days_from_civil (pos 1) 1 1) day (rw first_of_all h))

year_high : (day : ℤ) → year_of day ≤ 9999
unfolding year_of
year_high day = latest_high (λ n. int_le (days_from_civil (pos n) 1 1) day) 9999

year_began : (day : ℤ) → 1 ≤ year_of day → days_from_civil (pos (year_of day)) 1 1 ≤ℤ day
unfolding year_of
year_began day h = le_of (days_from_civil (pos (year_of day)) 1 1) day (latest_passes (λ n. int_le (days_from_civil (pos n) 1 1) day) 9999 (omega arith))

year_is_last : (day : ℤ) (x : ℕ) → x ≤ 9999 → days_from_civil (pos x) 1 1 ≤ℤ day → x ≤ year_of day
unfolding year_of
year_is_last day x h e = latest_low (λ n. int_le (days_from_civil (pos n) 1 1) day) x 9999 h (is_le (days_from_civil (pos x) 1 1) day e)

month_is_last : (day : ℤ) (n : ℕ) → n ≤ 12 → days_from_civil (pos (year_of day)) n 1 ≤ℤ day → n ≤ month_of day
unfolding month_of
month_is_last day n h e = latest_low (λ k. int_le (days_from_civil (pos (year_of day)) k 1) day) n 12 h (is_le (days_from_civil (pos (year_of day)) n 1) day e)

month_high : (day : ℤ) → month_of day ≤ 12
unfolding month_of
month_high day = latest_high (λ k. int_le (days_from_civil (pos (year_of day)) k 1) day) 12

month_has_begun : (day : ℤ) → 1 ≤ month_of day → days_from_civil (pos (year_of day)) (month_of day) 1 ≤ℤ day
unfolding month_of
month_has_begun day h = le_of (days_from_civil (pos (year_of day)) (month_of day) 1) day (latest_passes (λ k. int_le (days_from_civil (pos (year_of day)) k 1) day) 12 (omega arith))

began : (day : ℤ) → neg_ℤ (pos 719_162) ≤ℤ day → Began day
began day h =
    let low = year_low day h in
    let month = month_is_last day 1 (omega arith) (year_began day low) in
    record {
      year_in = (low, year_high day);
      month_in = (month, month_high day);
      month_began = month_has_begun day month;
      year_last = year_is_last day;
      month_last = month_is_last day;
    }

-- The first day of a month of the year, of which no later one up to the day's month is among those that are asked for.
module _ (Months : ℕ → Type 0) (t : ℤ) (in_range : IsTime t) (month : ℕ) (among : Months month) (month_in : IsInRange 1 12 month) (up_to : month ≤ month_of (day_at t))
    (last : (n : ℕ) → Months n → n ≤ month_of (day_at t) → n ≤ month) where
  low : neg_ℤ (pos 719_162) ≤ℤ day_at t
  low = omega (arith, signed_arith, in_range.0)

  b : Began (day_at t)
  b = began (day_at t) low

  start : ℤ
  start = days_from_civil (pos (year_of (day_at t))) month 1

  no_later : (x n : ℕ) → IsInRange 1 9999 x → IsInRange 1 12 n → Months n → days_from_civil (pos x) n 1 ≤ℤ day_at t → days_from_civil (pos x) n 1 ≤ℤ days_from_civil (pos (year_of (day_at t))) month 1
  no_later x n h k among_n le =
      let first = month_stays x 1 n h (omega arith, omega arith) k.0 in
      let not_after = b.year_last x h.1 (omega (arith, signed_arith)) in
      by_lt_z (pos x) (pos (year_of (day_at t))) (λ lt. year_rises x n (year_of (day_at t)) month h k (omega (arith, signed_arith)))
      (λ ge.
      (let same : x ≡ year_of (day_at t) = omega (arith, signed_arith) in
      let moved : days_from_civil (pos x) n 1 ≡ days_from_civil (pos (year_of (day_at t))) n 1 = ap (λ (y : ℕ). days_from_civil (pos y) n 1) same in
      let within = b.month_last n k.1 (rw (← moved) le) in
      rw moved (month_stays (year_of (day_at t)) n month b.year_in k (last n among_n within))))

  pub first_is_greatest : IsGreatestStart (IsFirstOf Months) t (midnight (days_from_civil (pos (year_of (day_at t))) month 1))
  first_is_greatest = record {
    starts = record { year = year_of (day_at t); month = month; year_in = b.year_in; month_in = month_in; among = among; is = refl };
    before =
        (let begun = month_stays (year_of (day_at t)) month (month_of (day_at t)) b.year_in month_in up_to in
        let before_it = b.month_began in
        omega (arith, signed_arith));
    greatest = λ w s le.
        (let at = s.is in
        let below : days_from_civil (pos s.year) s.month 1 ≤ℤ day_at t = omega (arith, signed_arith) in
        let no_later = no_later s.year s.month s.year_in s.month_in s.among below in
        omega (arith, signed_arith));
  }

month_in_year : (t : ℤ) → IsTime t → IsInRange 1 12 (month_of (day_at t))
month_in_year t h = (began (day_at t) (omega (arith, signed_arith, h.0))).month_in

pub month_is : (t : ℤ) → IsTime t → IsGreatestStart (IsFirstOf IsAny) t (midnight (month_start (day_at t)))
month_is t h = first_is_greatest IsAny t h (month_of (day_at t)) tt (month_in_year t h) (omega arith) (λ n a le. le)

pub quarter_is : (t : ℤ) → IsTime t → IsGreatestStart (IsFirstOf BeginsQuarter) t (midnight (quarter_start (day_at t)))
quarter_is t h =
    let m = month_in_year t h in
    first_is_greatest BeginsQuarter t h ((month_of (day_at t) - 1) / 3 * 3 + 1) ((month_of (day_at t) - 1) / 3, omega arith)
    (omega arith, omega (arith, m.0, m.1)) (omega (arith, m.0)) (λ n a le. omega (arith, a.1))

pub year_is : (t : ℤ) → IsTime t → IsGreatestStart (IsFirstOf IsJanuary) t (midnight (year_start (day_at t)))
year_is t h =
    let m = month_in_year t h in
    first_is_greatest IsJanuary t h 1 refl (omega arith, omega arith) m.0 (λ n a le. omega (arith, a))
