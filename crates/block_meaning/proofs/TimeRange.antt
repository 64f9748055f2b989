-- Each time that a timestamp denotes lies from the year 1 to the year 9999.
use Rattle.std.proofs.Common.{◌≡◌, ℕ, zero, suc, ◌+◌, ◌*◌, ◌/◌, ◌<◌, ◌≤◌, true, List, [], ◌∷◌, Some, ℤ, pos, neg_ℤ, ◌+ℤ◌, ◌*ℤ◌, ◌≤ℤ◌, refl, arith}
use Rattle.std.specs.Prelude.{int_le, ◌↔◌}
use Rattle.std.proofs.Math.Nat.{div-lt_iff_lt-mul}
use Rattle.std.proofs.lemmas.Int.{ints}
use Rattle.jiff_core.specs.Calendar.{IsDate, IsCivilDate, days_from_civil, day_count}
use Rattle.jiff_core.proofs.MarchLemmas.{day_count-early}
use Rattle.jiff_core.proofs.CalendarLemmas.{days_from_civil-day_count, day_count-lt_year, day_count-day_of_year}
use Rattle.jiff_core.proofs.SignedLemmas.{signed_arith}
use Rattle.time_meaning.specs.Moments.{moment, is_time, IsTime}
use Rattle.block_meaning.specs.Timestamps.{IsTimestamp, MayLead, ClockLeads, IsMicros, timestamp}
use Rattle.block_meaning.proofs.Answered.{and_true}
use Rattle.block_meaning.proofs.TimeReading.{leads-again, may-again, clock-again, read-is-meant}

year_one : day_count (pos 1) 1 1 ≡ 3_652_791
year_one = day_count-early (pos 1) 10_000 1 1 refl (omega arith) (omega arith) (omega arith)

year_past : day_count (pos 10_000) 1 1 ≡ 7_304_850
year_past = day_count-early (pos 10_000) 19_999 1 1 refl (omega arith) (omega arith) (omega arith)

civil_is : (y m d : ℕ) → IsDate (pos y) (pos m) (pos d) → IsCivilDate (pos y) m d
civil_is y m d h = (h.0, (omega (arith, signed_arith, h.1), omega (arith, signed_arith, h.1)), (omega (arith, signed_arith, h.2), omega (arith, signed_arith, h.2)))

year_on : (y m d : ℕ) → 1 ≤ y → IsCivilDate (pos y) m d → day_count (pos 1) 1 1 ≤ day_count (pos y) m d
year_on zero m d past h = absurd (omega arith)
year_on (suc zero) m d past h = omega (arith, day_count-day_of_year (pos 1) m d h.2.0)
year_on (suc (suc y)) m d past h =
    let first : IsCivilDate (pos 1) 1 1 = ((omega (arith, signed_arith), omega (arith, signed_arith)), (omega arith, omega arith), (omega arith, omega arith)) in
    omega (arith, day_count-lt_year (pos 1) 1 1 (pos (suc (suc y))) m d first h.2.0 (omega (arith, signed_arith)))

-- the day numbers of the years 1 to 9999
days_between : (y m d : ℕ) → 1 ≤ y → IsCivilDate (pos y) m d → (neg_ℤ (pos 719_162) ≤ℤ days_from_civil (pos y) m d) × (days_from_civil (pos y) m d ≤ℤ pos 2_932_896)
days_between y m d past h =
    let at = days_from_civil-day_count (pos y) m d in
    let before : day_count (pos y) m d < day_count (pos 10_000) 1 1 = day_count-lt_year (pos y) m d (pos 10_000) 1 1 h (omega arith) (omega (arith, signed_arith, h.0)) in
    let after : day_count (pos 1) 1 1 ≤ day_count (pos y) m d = year_on y m d past h in
    let from = year_one in
    let to = year_past in
    (omega (arith, signed_arith), omega (arith, signed_arith))

below_second : (a b : ℕ) → a < b → a * 1_000_000 / b < 1_000_000
below_second a b h = iff_back (div-lt_iff_lt-mul {k = b} {x = a * 1_000_000} {y = 1_000_000} (omega arith)) (omega arith)
  where
    iff_back : {A B : Type 0} → A ↔ B → B → A
    iff_back e b = e.1 b

is_le : (a b : ℤ) → a ≤ℤ b → int_le a b ≡ true
is_le a b h = grind (arith, ints)

at_most : (day : ℤ) (clock : ℕ) → neg_ℤ (pos 719_162) ≤ℤ day → day ≤ℤ pos 2_932_896 → clock ≤ 86_399_999_999 → is_time (day *ℤ pos 86_400_000_000 +ℤ pos clock) ≡ true
at_most day clock low high h =
    let least : neg_ℤ (pos 62_135_596_800_000_000) ≤ℤ (day *ℤ pos 86_400_000_000 +ℤ pos clock) = omega (arith, signed_arith) in
    let greatest : (day *ℤ pos 86_400_000_000 +ℤ pos clock) ≤ℤ pos 253_402_300_799_999_999 = omega (arith, signed_arith) in
    rw (is_le _ _ least, is_le _ _ greatest) refl

micros_below : (us : ℕ) (bytes : List ℕ) → IsMicros us bytes → us < 1_000_000
micros_below us [] h = omega arith
micros_below us (b ∷ bs) h = rw h.cut (below_second _ _ h.proper)

last_field : (t : ℤ) (payload : List ℕ) (h : IsTimestamp t payload) → h.micros < 1_000_000
last_field t payload h =
    let y = leads-again h.fields h.year (MayLead 1 h.month (MayLead 1 h.day (ClockLeads h.hour h.minute (MayLead 0 h.second (IsMicros h.micros))))) h.stand in
    let m = may-again 1 y.0 h.month (MayLead 1 h.day (ClockLeads h.hour h.minute (MayLead 0 h.second (IsMicros h.micros)))) y.2 in
    let d = may-again 1 m.0 h.day (ClockLeads h.hour h.minute (MayLead 0 h.second (IsMicros h.micros))) m.2 in
    let c = clock-again d.0 h.hour h.minute (MayLead 0 h.second (IsMicros h.micros)) d.2 in
    let s = may-again 0 c.0 h.second (IsMicros h.micros) c.2 in
    micros_below h.micros s.0 s.2

moment_in_range : (y m d h i s us : ℕ) → 1 ≤ y → IsCivilDate (pos y) m d → h ≤ 23 → i ≤ 59 → s ≤ 59 → us < 1_000_000 → is_time (moment y m d h i s us) ≡ true
unfolding moment
moment_in_range y m d h i s us past date hours minutes seconds micros =
    let day = days_between y m d past date in
    at_most (days_from_civil (pos y) m d) (((h * 60 + i) * 60 + s) * 1_000_000 + us) day.0 day.1 (omega arith)

pub timestamp_in_range : (t : ℤ) (payload : List ℕ) → IsTimestamp t payload → is_time t ≡ true
timestamp_in_range t payload h =
    rw h.at (moment_in_range h.year h.month h.day h.hour h.minute h.second h.micros h.past (civil_is h.year h.month h.day h.date) h.hours h.minutes_in h.seconds (last_field t payload h))

le_is : (a b : ℤ) → int_le a b ≡ true → a ≤ℤ b
le_is a b h = grind (arith, ints)

-- the test and the bounds are one
pub is_time-bounds : (t : ℤ) → is_time t ≡ true → IsTime t
is_time-bounds t e =
    let p = and_true (int_le (neg_ℤ (pos 62_135_596_800_000_000)) t) (int_le t (pos 253_402_300_799_999_999)) e in
    (le_is _ _ p.0, le_is _ _ p.1)

pub is_time-from_bounds : (t : ℤ) → IsTime t → is_time t ≡ true
is_time-from_bounds t h = rw (is_le _ _ h.0, is_le _ _ h.1) refl

-- a payload that is read is a time
pub timestamp_is_time : (t : ℤ) (payload : List ℕ) → timestamp payload ≡ Some t → (is_time t ≡ true) × IsTime t
timestamp_is_time t payload e =
    let k = timestamp_in_range t payload (read-is-meant t payload e) in
    (k, is_time-bounds t k)
