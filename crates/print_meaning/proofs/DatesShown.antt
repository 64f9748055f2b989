-- The year, the month and the day that are shown of a day number are a date of the calendar, and that day.
use Rattle.std.proofs.Common.{◌≡◌, ℕ, zero, suc, ◌+◌, ◌-◌, ◌<◌, ◌≤◌, Bool, true, false, cond, ℤ, pos, negsuc, neg_ℤ, ◌+ℤ◌, ◌-ℤ◌, ◌≤ℤ◌, ◌<ℤ◌, refl, arith, eq-zero-or-pos, inl, inr}
use Rattle.std.specs.Prelude.{int_le, unsigned_abs}
use Rattle.std.proofs.lemmas.Int.{ints}
use Rattle.jiff_core.specs.Calendar.{days_from_civil, day_count, days_in_month, IsBetween}
use Rattle.jiff_core.proofs.MarchLemmas.{day_count-early}
use Rattle.jiff_core.proofs.CalendarLemmas.{days_from_civil-day_count, day_count-day, day_count-next_year, day_count-next_month, day_count-last_of_year, day_count-end}
use Rattle.jiff_core.proofs.SignedLemmas.{signed_arith}
use Rattle.time_meaning.specs.Dates.{latest, year_of, month_of, day_of}

-- the greatest number up to a bound that passes a test, where 1 passes
record IsLatest (test : ℕ → Bool) (bound n : ℕ) : Type 0 where
  least : 1 ≤ n
  most : n ≤ bound
  passes : test n ≡ true
  next : n < bound → test (suc n) ≡ false

next_one : (test : ℕ → Bool) (x n : ℕ) → x ≤ n → (x < n → test (suc x) ≡ false) → test (suc n) ≡ false → test (suc x) ≡ false
next_one test x n h f e =
    elim (eq-zero-or-pos (n - x)) [
      | inl z ↦ let same : x ≡ n = omega arith in rw same e
      | inr g ↦ f (omega arith)
    ]

latest_is : (test : ℕ → Bool) (bound : ℕ) → 1 ≤ bound → test 1 ≡ true → IsLatest test bound (latest test bound)
latest_is test zero h e = absurd (omega arith)
latest_is test (suc zero) h e = rw e (record { least = omega arith; most = omega arith; passes = e; next = λ l. absurd (omega (arith, l)) })
latest_is test (suc (suc n)) h e = go (test (suc (suc n))) refl (latest_is test (suc n) (omega arith) e)
  where
    go : (b : Bool) → test (suc (suc n)) ≡ b → IsLatest test (suc n) (latest test (suc n)) → IsLatest test (suc (suc n)) (cond b (suc (suc n)) (latest test (suc n)))
    go true t before = record { least = omega arith; most = omega arith; passes = t; next = λ l. absurd (omega (arith, l)) }
    go false t before =
        record {
          least = before.least;
          most = omega (arith, before.most);
          passes = before.passes;
          next = λ l. next_one test (latest test (suc n)) (suc n) before.most before.next t;
        }

is_le : (a b : ℤ) → a ≤ℤ b → int_le a b ≡ true
is_le a b h = grind (arith, ints)

le_is : (a b : ℤ) → int_le a b ≡ true → a ≤ℤ b
le_is a b h = grind (arith, ints)

not_le_is : (a b : ℤ) → int_le a b ≡ false → b <ℤ a
not_le_is a b h = grind (arith, ints)

year_one : day_count (pos 1) 1 1 ≡ 3_652_791
year_one = day_count-early (pos 1) 10_000 1 1 refl (omega arith) (omega arith) (omega arith)

-- the days from 0001-01-01 to 9999-12-31
abbrev pub IsDay : ℤ → Type 0
IsDay day = IsBetween (neg_ℤ (pos 719_162)) (pos 2_932_896) day

abbrev YearTest : ℤ → ℕ → Bool
YearTest day n = int_le (days_from_civil (pos n) 1 1) day

abbrev MonthTest : ℤ → ℕ → ℕ → Bool
MonthTest day y n = int_le (days_from_civil (pos y) n 1) day

-- the year that began last, and its days
record IsYearOf (day : ℤ) (y : ℕ) : Type 0 where
  least : 1 ≤ y
  most : y ≤ 9999
  begun : days_from_civil (pos y) 1 1 ≤ℤ day
  next : day <ℤ days_from_civil (pos (suc y)) 1 1

year_ends : (day : ℤ) (y : ℕ) → IsDay day → IsLatest (YearTest day) 9999 y → day <ℤ days_from_civil (pos (suc y)) 1 1
year_ends day y h l =
    elim (eq-zero-or-pos (9999 - y)) [
      | inl z ↦
          let last : suc y ≡ 10000 = omega (arith, l.most) in
          rw last (let e = days_from_civil-day_count (pos 10000) 1 1 in let f = day_count-end in omega (arith, signed_arith))
      | inr g ↦ not_le_is (days_from_civil (pos (suc y)) 1 1) day (l.next (omega arith))
    ]

year_shown : (day : ℤ) → IsDay day → IsYearOf day (year_of day)
unfolding year_of
year_shown day h =
    let first : days_from_civil (pos 1) 1 1 ≤ℤ day = let e = days_from_civil-day_count (pos 1) 1 1 in let f = year_one in omega (arith, signed_arith) in
    let l = latest_is (YearTest day) 9999 (omega arith) (is_le (days_from_civil (pos 1) 1 1) day first) in
    record { least = l.least; most = l.most; begun = le_is _ day l.passes; next = year_ends day (latest (YearTest day) 9999) h l }

-- the month that began last, and its days
record IsMonthOf (day : ℤ) (y m : ℕ) : Type 0 where
  least : 1 ≤ m
  most : m ≤ 12
  begun : days_from_civil (pos y) m 1 ≤ℤ day
  next : day <ℤ (days_from_civil (pos y) m 1 +ℤ pos (days_in_month (pos y) m))

month_ends : (day : ℤ) (y m : ℕ) → day <ℤ days_from_civil (pos (suc y)) 1 1 → IsLatest (MonthTest day y) 12 m → day <ℤ (days_from_civil (pos y) m 1 +ℤ pos (days_in_month (pos y) m))
month_ends day y m h l =
    elim (eq-zero-or-pos (12 - m)) [
      | inl z ↦
          let last : m ≡ 12 = omega (arith, l.most) in
          rw last (
          let here = days_from_civil-day_count (pos y) 12 1 in
          let there = days_from_civil-day_count (pos (suc y)) 1 1 in
          let one = day_count-next_year (pos y) (pos (suc y)) (omega (arith, signed_arith)) (omega (arith, signed_arith)) in
          let two = day_count-last_of_year (pos y) in
          let three = day_count-day (pos y) 12 1 31 (omega arith) (omega arith) in
          omega (arith, signed_arith))
      | inr g ↦
          let after : day <ℤ days_from_civil (pos y) (suc m) 1 = not_le_is (days_from_civil (pos y) (suc m) 1) day (l.next (omega arith)) in
          let here = days_from_civil-day_count (pos y) m 1 in
          let there = days_from_civil-day_count (pos y) (suc m) 1 in
          let one : m + 1 ≡ suc m = omega arith in
          let two : day_count (pos y) (suc m) 1 ≡ day_count (pos y) m 1 + days_in_month (pos y) m = rw one at (day_count-next_month (pos y) m l.least) in
          omega (arith, signed_arith)
    ]

month_shown : (day : ℤ) → IsDay day → IsMonthOf day (year_of day) (month_of day)
unfolding month_of
month_shown day h =
    let year = year_shown day h in
    let l = latest_is (MonthTest day (year_of day)) 12 (omega arith) (is_le (days_from_civil (pos (year_of day)) 1 1) day year.begun) in
    record { least = l.least; most = l.most; begun = le_is _ day l.passes; next = month_ends day (year_of day) (latest (MonthTest day (year_of day)) 12) year.next l }

-- what a day number shows is a date, and its day
pub record IsDateOf (day : ℤ) (y m d : ℕ) : Type 0 where
  pub from_year : 1 ≤ y
  pub to_year : y ≤ 9999
  pub from_month : 1 ≤ m
  pub to_month : m ≤ 12
  pub from_day : 1 ≤ d
  pub to_day : d ≤ days_in_month (pos y) m
  pub is_day : days_from_civil (pos y) m d ≡ day

abs_is : (z : ℤ) → pos 0 ≤ℤ z → pos (unsigned_abs z) ≡ z
abs_is (pos n) h = refl
abs_is (negsuc n) h = absurd (omega (arith, signed_arith))

-- a later day is so many days later
gap_is : (day first : ℤ) → first ≤ℤ day → first +ℤ pos (unsigned_abs (day -ℤ first)) ≡ day
gap_is day first h = let e = abs_is (day -ℤ first) (omega (arith, signed_arith)) in rw e (omega (arith, signed_arith))

date_from : (day : ℤ) (y m : ℕ) → IsYearOf day y → IsMonthOf day y m → IsDateOf day y m (unsigned_abs (day -ℤ days_from_civil (pos y) m 1) + 1)
date_from day y m a b =
    let gap = unsigned_abs (day -ℤ days_from_civil (pos y) m 1) in
    let begun = b.begun in
    let next = b.next in
    let later = gap_is day (days_from_civil (pos y) m 1) b.begun in
    let small : gap < days_in_month (pos y) m = omega (arith, signed_arith) in
    let first = days_from_civil-day_count (pos y) m 1 in
    let here = days_from_civil-day_count (pos y) m (gap + 1) in
    let moved = day_count-day (pos y) m 1 (gap + 1) (omega arith) (omega arith) in
    record {
      from_year = a.least;
      to_year = a.most;
      from_month = b.least;
      to_month = b.most;
      from_day = omega arith;
      to_day = omega arith;
      is_day = omega (arith, signed_arith);
    }

pub date_shown : (day : ℤ) → IsDay day → IsDateOf day (year_of day) (month_of day) (day_of day)
unfolding day_of
date_shown day h = date_from day (year_of day) (month_of day) (year_shown day h) (month_shown day h)
