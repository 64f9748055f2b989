-- What is written for a time is its timestamp.
use Rattle.std.proofs.Common.{◌≡◌, ℕ, suc, ◌+◌, ◌-◌, ◌*◌, ◌/◌, ◌%◌, ◌^◌, ◌<◌, ◌≤◌, Bool, true, false, eqb, nat_le, ℤ, pos, negsuc, neg_ℤ, ◌+ℤ◌, ◌*ℤ◌, ◌≤ℤ◌, List, [], ◌∷◌, ◌++◌, length, ◌&&◌, inl, inr, refl, sym, ap, ◌∙◌, subst, arith}
use Rattle.std.specs.Prelude.{unsigned_abs, int_le}
use Rattle.std.specs.Int.{int_div_euclid, int_rem_euclid}
use Rattle.std.proofs.lemmas.Bool.Decides.{nat_tests, leb_tells}
use Rattle.std.proofs.lemmas.Int.{ints}
use Rattle.std.proofs.lemmas.List.{length-append}
use Rattle.jiff_core.specs.Calendar.{days_from_civil, IsCivilDate, IsDate}
use Rattle.jiff_core.proofs.SignedLemmas.{signed_arith, unsigned_abs-parts, int_div_euclid-parts, int_rem_euclid-parts}
use Rattle.time_meaning.specs.Moments.{is_time, moment}
use Rattle.time_meaning.specs.Dates.{year_of, month_of, day_of}
use Rattle.time_meaning.specs.Printed.{day_at, micros_at}
use Rattle.block_meaning.specs.Numbers.{IsVarUInt, IsVarInt, magnitude, magnitude_on}
use Rattle.block_meaning.specs.Timestamps.{Leads, MayLead, ClockLeads, HasClearSign, IsMinus, IsFraction, IsMicros, IsTimestamp}
use Rattle.write_meaning.specs.Encoding.{digits, var_uint_bytes, with_clear_sign, micros_bytes, moment_bytes, time_bytes}
use Rattle.write_meaning.proofs.Digits.{digits_length, magnitude_spelled, var_uint_spelled}
use Rattle.write_meaning.proofs.DatesBack.{IsDated, is_dated, few_days}

leads : (n : ℕ) (Rest : List ℕ → Type 0) (rest : List ℕ) → n < 10_000 → Rest rest → Leads n Rest (var_uint_bytes n ++ rest)
leads n Rest rest h r = (var_uint_bytes n, rest, refl, var_uint_spelled n (omega arith), r)

may_lead_by : (least n : ℕ) (Rest : List ℕ → Type 0) (front rest : List ℕ) → IsVarUInt front n → Rest rest → MayLead least n Rest (front ++ rest)
may_lead_by least n Rest [] rest v r = absurd v.spells
may_lead_by least n Rest (b ∷ bs) rest v r = (b ∷ bs, rest, refl, v, r)

may_lead : (least n : ℕ) (Rest : List ℕ → Type 0) (rest : List ℕ) → n < 10_000 → Rest rest → MayLead least n Rest (var_uint_bytes n ++ rest)
may_lead least n Rest rest h r = may_lead_by least n Rest (var_uint_bytes n) rest (var_uint_spelled n (omega arith)) r

clock_leads_by : (hour minute : ℕ) (Rest : List ℕ → Type 0) (front rest : List ℕ) → IsVarUInt front hour → Leads minute Rest rest → ClockLeads hour minute Rest (front ++ rest)
clock_leads_by hour minute Rest [] rest v r = absurd v.spells
clock_leads_by hour minute Rest (b ∷ bs) rest v r = (b ∷ bs, rest, refl, v, r)

-- ---- the fraction

pub clear : (bytes : List ℕ) → HasClearSign (with_clear_sign bytes) × (magnitude_on 0 (with_clear_sign bytes) ≡ magnitude_on 0 bytes) × (length (with_clear_sign bytes) ≤ 1 + length bytes)
clear [] = (tt, refl, omega arith)
clear (b ∷ bs) = at (nat_le 128 b) refl
  where
    at : (t : Bool) → nat_le 128 b ≡ t → HasClearSign (with_clear_sign (b ∷ bs)) × (magnitude_on 0 (with_clear_sign (b ∷ bs)) ≡ magnitude_on 0 (b ∷ bs)) × (length (with_clear_sign (b ∷ bs)) ≤ 1 + length (b ∷ bs))
    at true e = rw e (omega arith, refl, omega arith)
    at false e =
        let small : b < 128 = elim (leb_tells 128 b) [ inl h ↦ absurd cc | inr h ↦ h.1 ] in
        rw e (small, refl, omega arith)

magnitude_same : (bytes : List ℕ) → magnitude (with_clear_sign bytes) ≡ magnitude bytes
unfolding magnitude
magnitude_same bytes = (clear bytes).1

fraction : (u : ℕ) → u < 1_000_000 → IsFraction (198 ∷ with_clear_sign (digits 256 3 u)) u
fraction u h =
    let coefficient = with_clear_sign (digits 256 3 u) in
    let spelled : magnitude coefficient ≡ u = magnitude_same (digits 256 3 u) ∙ magnitude_spelled 3 u (omega arith) in
    record {
      sign_set = true;
      places = 6;
      exponent = 198 ∷ [];
      coefficient = coefficient;
      parts = refl;
      spells = record { first = 134; more = []; bare = omega arith; spells = record { short = omega arith; spells = (omega arith, refl) }; parts = refl };
      minus = tt;
      few = omega arith;
      short = omega (arith, (clear (digits 256 3 u)).2, digits_length 256 3 u);
      clear = (clear (digits 256 3 u)).0;
      proper = rw spelled h;
      cut = rw spelled (omega arith);
    }

pub micros_none : (u : ℕ) → eqb u 0 ≡ true → micros_bytes u ≡ []
unfolding micros_bytes
micros_none u e = rw e refl

pub micros_some : (u : ℕ) → eqb u 0 ≡ false → micros_bytes u ≡ 198 ∷ with_clear_sign (digits 256 3 u)
unfolding micros_bytes
micros_some u e = rw e refl

is_micros : (u : ℕ) → u < 1_000_000 → IsMicros u (micros_bytes u)
is_micros u h = at (eqb u 0) refl
  where
    at : (t : Bool) → eqb u 0 ≡ t → IsMicros u (micros_bytes u)
    at true e = let none : u ≡ 0 = grind (arith, nat_tests) in rw (micros_none u e) none
    at false e = rw (micros_some u e) (fraction u h)

-- ---- the whole

offset : IsVarInt (128 ∷ []) false 0
offset = record { first = 128; more = []; bare = omega arith; spells = record { short = omega arith; spells = (omega arith, refl) }; parts = refl }

pub stamped : (y m d h k s u : ℕ) → IsCivilDate (pos y) m d → 1 ≤ y → h ≤ 23 → k ≤ 59 → s ≤ 59 → u < 1_000_000 → IsTimestamp (moment y m d h k s u) (moment_bytes y m d h k s u)
unfolding moment_bytes
stamped y m d h k s u civil past hours minutes seconds few =
    let year : y ≤ 9999 = omega (arith, signed_arith, civil.0) in
    let days : d ≤ 31 = omega (arith, civil.2.1, few_days (pos y) m) in
    record {
      west = false;
      minutes = 0;
      offset = 128 ∷ [];
      fields = var_uint_bytes y ++ (var_uint_bytes m ++ (var_uint_bytes d ++ (var_uint_bytes h ++ (var_uint_bytes k ++ (var_uint_bytes s ++ micros_bytes u)))));
      year = y;
      month = m;
      day = d;
      hour = h;
      minute = k;
      second = s;
      micros = u;
      parts = refl;
      spells = offset;
      within = omega arith;
      stand = leads y (MayLead 1 m (MayLead 1 d (ClockLeads h k (MayLead 0 s (IsMicros u))))) _ (omega arith)
          (may_lead 1 m (MayLead 1 d (ClockLeads h k (MayLead 0 s (IsMicros u)))) _ (omega (arith, civil.1.1))
          (may_lead 1 d (ClockLeads h k (MayLead 0 s (IsMicros u))) (var_uint_bytes h ++ (var_uint_bytes k ++ (var_uint_bytes s ++ micros_bytes u))) (omega arith)
          (clock_leads_by h k (MayLead 0 s (IsMicros u)) (var_uint_bytes h) (var_uint_bytes k ++ (var_uint_bytes s ++ micros_bytes u)) (var_uint_spelled h (omega arith))
          (leads k (MayLead 0 s (IsMicros u)) (var_uint_bytes s ++ micros_bytes u) (omega arith) (may_lead 0 s (IsMicros u) (micros_bytes u) (omega arith) (is_micros u few))))));
      past = past;
      date = (civil.0, (omega (arith, signed_arith, civil.1.0), omega (arith, signed_arith, civil.1.1)), (omega (arith, signed_arith, civil.2.0), omega (arith, signed_arith, civil.2.1)));
      hours = hours;
      minutes_in = minutes;
      seconds = seconds;
      at = refl;
    }

-- ---- of a time

both : (a b : Bool) → (a && b) ≡ true → (a ≡ true) × (b ≡ true)
both true true e = (refl, refl)
both true false e = cc
both false b e = cc

le_from : (a b : ℤ) → int_le a b ≡ true → a ≤ℤ b
le_from a b e = grind (arith, ints)

-- The day and the microseconds within it make the time.
pub record IsParted (t : ℤ) : Type 0 where
  pub low : neg_ℤ (pos 719_162) ≤ℤ day_at t
  pub high : day_at t ≤ℤ pos 2_932_896
  pub within : micros_at t < 86_400_000_000
  pub whole : day_at t *ℤ pos 86_400_000_000 +ℤ pos (micros_at t) ≡ t

same_z : (a b : ℤ) → a ≤ℤ b → b ≤ℤ a → a ≡ b
same_z a b h k = grind (arith, ints)

pub parted : (t : ℤ) → is_time t ≡ true → IsParted t
parted t e =
    let r = both (int_le (neg_ℤ (pos 62_135_596_800_000_000)) t) (int_le t (pos 253_402_300_799_999_999)) e in
    let from : neg_ℤ (pos 62_135_596_800_000_000) ≤ℤ t = le_from _ _ r.0 in
    let to : t ≤ℤ pos 253_402_300_799_999_999 = le_from _ _ r.1 in
    let q = int_div_euclid-parts t 86_400_000_000 (omega arith) in
    let m = int_rem_euclid-parts t 86_400_000_000 (omega arith) in
    let size = unsigned_abs-parts (int_rem_euclid t (pos 86_400_000_000)) in
    record {
      low = omega (arith, signed_arith, from, q);
      high = omega (arith, signed_arith, to, q);
      within = omega (arith, m, size);
      whole = same_z _ _ (omega (arith, signed_arith, q, m, size)) (omega (arith, signed_arith, q, m, size));
    }

clock_whole : (w : ℕ) → ((w / 1_000_000 / 3600 * 60 + w / 1_000_000 / 60 % 60) * 60 + w / 1_000_000 % 60) * 1_000_000 + w % 1_000_000 ≡ w
clock_whole w = omega arith

moment_whole : (day t : ℤ) (y m d w : ℕ) → days_from_civil (pos y) m d ≡ day → day *ℤ pos 86_400_000_000 +ℤ pos w ≡ t
    → moment y m d (w / 1_000_000 / 3600) (w / 1_000_000 / 60 % 60) (w / 1_000_000 % 60) (w % 1_000_000) ≡ t
unfolding moment
moment_whole day t y m d w e f = rw (e, clock_whole w) f

pub time_stamped : (t : ℤ) → is_time t ≡ true → IsTimestamp t (time_bytes t)
unfolding time_bytes
time_stamped t e =
    let p = parted t e in
    let d = is_dated (day_at t) p.low p.high in
    let w = micros_at t in
    let h = p.within in
    subst (λ z. IsTimestamp z (time_bytes t)) (moment_whole (day_at t) t _ _ _ w d.same p.whole)
    (stamped _ _ _ (w / 1_000_000 / 3600) (w / 1_000_000 / 60 % 60) (w / 1_000_000 % 60) (w % 1_000_000) d.civil d.year (omega arith) (omega arith) (omega arith) (omega arith))
