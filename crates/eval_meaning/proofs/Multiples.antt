-- The greatest multiple of a length, and the last Monday.
use Rattle.std.proofs.Common.{◌≡◌, ℤ, pos, ◌≤ℤ◌, refl, arith}
use Rattle.std.specs.Int.{int_div_euclid}
use Rattle.jiff_core.specs.Calendar.{weekday_number}
use Rattle.jiff_core.proofs.SignedLemmas.{signed_arith}
use Rattle.time_meaning.specs.Printed.{day_at}
use Rattle.eval_meaning.specs.Times.{last_multiple, midnight, monday_of}
use Rattle.eval_meaning.specs.Starts.{IsMultiple, IsMonday, IsGreatestStart}

pub second_is : (t : ℤ) → IsGreatestStart (IsMultiple 1_000_000) t (last_multiple 1_000_000 t)
second_is t = record {
  starts = (int_div_euclid t (pos 1_000_000), refl);
  before = omega (arith, signed_arith);
  greatest = λ w s le. omega (arith, signed_arith, s.1);
}

pub minute_is : (t : ℤ) → IsGreatestStart (IsMultiple 60_000_000) t (last_multiple 60_000_000 t)
minute_is t = record {
  starts = (int_div_euclid t (pos 60_000_000), refl);
  before = omega (arith, signed_arith);
  greatest = λ w s le. omega (arith, signed_arith, s.1);
}

pub hour_is : (t : ℤ) → IsGreatestStart (IsMultiple 3_600_000_000) t (last_multiple 3_600_000_000 t)
hour_is t = record {
  starts = (int_div_euclid t (pos 3_600_000_000), refl);
  before = omega (arith, signed_arith);
  greatest = λ w s le. omega (arith, signed_arith, s.1);
}

pub day_is : (t : ℤ) → IsGreatestStart (IsMultiple 86_400_000_000) t (midnight (day_at t))
day_is t = record {
  starts = (day_at t, refl);
  before = omega (arith, signed_arith);
  greatest = λ w s le. omega (arith, signed_arith, s.1);
}

monday_starts : (day : ℤ) → weekday_number (monday_of day) ≡ 0
unfolding weekday_number
monday_starts day = omega (arith, signed_arith)

monday_last : (day other : ℤ) → weekday_number other ≡ 0 → other ≤ℤ day → other ≤ℤ monday_of day
unfolding weekday_number
monday_last day other h le = omega (arith, signed_arith)

monday_before : (day : ℤ) → monday_of day ≤ℤ day
unfolding weekday_number
monday_before day = omega (arith, signed_arith)

pub week_is : (t : ℤ) → IsGreatestStart IsMonday t (midnight (monday_of (day_at t)))
week_is t = record {
  starts = (monday_of (day_at t), refl, monday_starts (day_at t));
  before = (let b = monday_before (day_at t) in omega (arith, signed_arith));
  greatest = λ w s le.
      (let there : s.0 ≤ℤ day_at t = omega (arith, signed_arith, s.1) in
      let last = monday_last (day_at t) s.0 s.2 there in
      omega (arith, signed_arith, s.1));
}
