-- Each date is the one of its day number.
use Rattle.std.proofs.Common.{◌≡◌, ℕ, zero, suc, ◌-◌, ◌<◌, ◌≤◌, Bool, true, false, ℤ, pos, negsuc, neg_ℤ, ◌-ℤ◌, ◌≤ℤ◌, ◌<ℤ◌, refl, sym, arith}
use Rattle.std.specs.Prelude.{int_le}
use Rattle.std.proofs.lemmas.Int.{ints, by_lt_z}
use Rattle.jiff_core.proofs.MarchLemmas.{day_count-early}
use Rattle.jiff_core.specs.Calendar.{days_from_civil, day_count, IsCivilDate}
use Rattle.jiff_core.proofs.CalendarLemmas.{days_from_civil-day_count, day_count-lt_year, day_count-lt_month, day_count-day, day_count-day_of_year}
use Rattle.jiff_core.proofs.SignedLemmas.{signed_arith}
use Rattle.time_meaning.specs.Dates.{latest, year_of, month_of, day_of}

at_bound : (test : ℕ → Bool) (n bound : ℕ) (b : Bool) → test (suc bound) ≡ b → n ≤ suc bound → test n ≡ true → (n < suc bound → test (suc bound) ≡ false) → (n ≤ bound → latest test bound ≡ n) → latest test (suc bound) ≡ n
at_bound test n bound true g h e f rest =
    let not_below : (n < suc bound) → ⊥ = λ lt. (let w = f lt in cc) in
    let same : suc bound ≡ n = omega arith in
    rw g same
at_bound test n bound false g h e f rest =
    let apart : n ≡ suc bound → ⊥ = λ s. (let w : test (suc bound) ≡ true = rw (← s) e in cc) in
    rw g (rest (omega arith))

pub latest_is : (test : ℕ → Bool) (n bound : ℕ) → n ≤ bound → test n ≡ true → ((k : ℕ) → n < k → test k ≡ false) → latest test bound ≡ n
latest_is test n zero h e f = omega arith
latest_is test n (suc bound) h e f = at_bound test n bound (test (suc bound)) refl h e (f (suc bound)) (λ le. latest_is test n bound le e f)

is_le : (a b : ℤ) → a ≤ℤ b → int_le a b ≡ true
is_le a b h = grind (arith, ints)

is_not_le : (a b : ℤ) → b <ℤ a → int_le a b ≡ false
is_not_le a b h = grind (arith, ints)

before_it : (y : ℤ) (m d : ℕ) → IsCivilDate y m d → day_count y 1 1 ≤ day_count y m d
before_it y m d h = omega (arith, day_count-day_of_year y m d h.2.0)

year_is : (y m d : ℕ) → IsCivilDate (pos y) m d → year_of (days_from_civil (pos y) m d) ≡ y
unfolding year_of
year_is y m d h =
    let day = days_from_civil (pos y) m d in
    let here = days_from_civil-day_count (pos y) m d in
    latest_is (λ n. int_le (days_from_civil (pos n) 1 1) (days_from_civil (pos y) m d)) y 9999 (omega (arith, signed_arith, h.0))
    (let first = days_from_civil-day_count (pos y) 1 1 in
    let le : days_from_civil (pos y) 1 1 ≤ℤ days_from_civil (pos y) m d = omega (arith, signed_arith, before_it (pos y) m d h) in
    is_le _ _ le)
    (λ k lt.
    let there = days_from_civil-day_count (pos k) 1 1 in
    let later = day_count-lt_year (pos y) m d (pos k) 1 1 h (omega arith) (omega (arith, signed_arith)) in
    is_not_le (days_from_civil (pos k) 1 1) (days_from_civil (pos y) m d) (omega (arith, signed_arith)))

month_is : (y m d : ℕ) → IsCivilDate (pos y) m d → month_of (days_from_civil (pos y) m d) ≡ m
unfolding month_of
month_is y m d h =
    let here = days_from_civil-day_count (pos y) m d in
    rw (year_is y m d h) (latest_is (λ n. int_le (days_from_civil (pos y) n 1) (days_from_civil (pos y) m d)) m 12 h.1.1
    (let first = days_from_civil-day_count (pos y) m 1 in
    let apart = day_count-day (pos y) m d 1 h.2.0 (omega arith) in
    let low = h.2.0 in
    is_le (days_from_civil (pos y) m 1) (days_from_civil (pos y) m d) (omega (arith, signed_arith)))
    (λ k lt.
    let there = days_from_civil-day_count (pos y) k 1 in
    let later = day_count-lt_month (pos y) m d k 1 h (omega arith) lt in
    is_not_le (days_from_civil (pos y) k 1) (days_from_civil (pos y) m d) (omega (arith, signed_arith))))

day_is : (y m d : ℕ) → IsCivilDate (pos y) m d → day_of (days_from_civil (pos y) m d) ≡ d
unfolding day_of
day_is y m d h =
    let here = days_from_civil-day_count (pos y) m d in
    let first = days_from_civil-day_count (pos y) m 1 in
    let apart = day_count-day (pos y) m d 1 h.2.0 (omega arith) in
    let low = h.2.0 in
    let gap : days_from_civil (pos y) m d -ℤ days_from_civil (pos y) m 1 ≡ pos (d - 1) = omega (arith, signed_arith) in
    rw (year_is y m d h, month_is y m d h, gap) (omega arith)

pub date_is : (y m d : ℕ) → IsCivilDate (pos y) m d → (year_of (days_from_civil (pos y) m d) ≡ y) × (month_of (days_from_civil (pos y) m d) ≡ m) × (day_of (days_from_civil (pos y) m d) ≡ d)
date_is y m d h = (year_is y m d h, month_is y m d h, day_is y m d h)

year_one : day_count (pos 1) 1 1 ≡ 3_652_791
year_one = day_count-early (pos 1) 10_000 1 1 refl (omega arith) (omega arith) (omega arith)

year_past : (y : ℤ) (m d : ℕ) → IsCivilDate y m d → neg_ℤ (pos 719_162) ≤ℤ days_from_civil y m d → pos 1 ≤ℤ y
year_past y m d h low =
    by_lt_z y (pos 1) (λ lt. absurd (omega (arith, signed_arith, year_one, days_from_civil-day_count y m d, day_count-lt_year y m d (pos 1) 1 1 h (omega arith) lt))) (λ ge. ge)

shown : (y : ℤ) (m d : ℕ) (day : ℤ) → pos 1 ≤ℤ y → IsCivilDate y m d → days_from_civil y m d ≡ day → m ≡ month_of day
shown (pos y) m d day h k e = sym (rw (← e) (month_is y m d k))
shown (negsuc y) m d day h k e = absurd (omega (arith, signed_arith))

-- the month of a date from the year 1 on is that of its day number
pub month_shown : (y : ℤ) (m d : ℕ) (day : ℤ) → IsCivilDate y m d → neg_ℤ (pos 719_162) ≤ℤ day → days_from_civil y m d ≡ day → m ≡ month_of day
month_shown y m d day h low e = shown y m d day (year_past y m d h (rw e low)) h e
