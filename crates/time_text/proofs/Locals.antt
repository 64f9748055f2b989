-- The moment that checked fields show.
use Rattle.std.proofs.Common.{◌≡◌, ℕ, ◌+◌, ◌*◌, ◌≤◌, ℤ, pos, ◌+ℤ◌, ◌-ℤ◌, ◌*ℤ◌, true, refl, arith}
use Rattle.std.proofs.lemmas.Bool.Decides.{nat_tests}
use Rattle.jiff_core.specs.Calendar.{IsDate, days_from_civil, days_in_month}
use Rattle.jiff_core.proofs.SignedLemmas.{signed_arith}
use Rattle.time_meaning.specs.Moments.{moment, is_real}
use Rattle.time_meaning.specs.Texts.{in_range, local_time}

pub date_is : (a b c x y z : ℤ) → a ≡ x → b ≡ y → c ≡ z → IsDate a b c → IsDate x y z
date_is a b c x y z e f g h = rw (← e, ← f, ← g) h

module _ (y m d h i s us : ℕ) (date : IsDate (pos y) (pos m) (pos d)) (hours : h ≤ 23) (minutes : i ≤ 59) (seconds : s ≤ 59) where
  real_is : is_real 0 y m d h i s ≡ true
  unfolding is_real
  real_is =
      let o : 0 ≤ y = omega arith in
      let a : y ≤ 9999 = omega (arith, signed_arith) in
      let b : 1 ≤ m = omega (arith, signed_arith) in
      let c : m ≤ 12 = omega (arith, signed_arith) in
      let e : 1 ≤ d = omega (arith, signed_arith) in
      let f : d ≤ days_in_month (pos y) m = omega (arith, signed_arith, date.2.1) in
      grind (arith, nat_tests)

  pub local_is : (day at ahead : ℤ) → day ≡ days_from_civil (pos y) m d → at ≡ day *ℤ pos 86_400_000_000 +ℤ pos (((h * 60 + i) * 60 + s) * 1_000_000 + us) → in_range (at -ℤ ahead *ℤ pos 60_000_000) ≡ local_time y m d h i s us ahead
  unfolding local_time moment
  local_is day at ahead e f = rw (real_is, f, e) refl
