-- Times on the first 28 days of a month, which each month has.
use Rattle.std.proofs.Common.{◌≡◌, ◌≤◌, ◌<◌, ◌+◌, ◌*◌, ◌-◌, ℕ, List, length, get_or, true, pos, Some, refl, arith}
use Rattle.std.specs.Prelude.{is_some}
use Rattle.std.proofs.lemmas.Bool.Decides.{nat_tests}
use Rattle.jiff_core.specs.Calendar.{days_in_month}
use Rattle.jiff_core.proofs.CalendarLemmas.{days_in_month_bounds}
use Rattle.time_meaning.specs.Moments.{is_real}
use Rattle.block_meaning.specs.Timestamps.{timestamp, moment_of}
use Rattle.ion_cells.proofs.ShortTimes.{short_time}

real_early : (y m d h i s : ℕ) → 1 ≤ y → y ≤ 9999 → 1 ≤ m → m ≤ 12 → 1 ≤ d → d ≤ 28 → h ≤ 23 → i ≤ 59 → s ≤ 59 → is_real 1 y m d h i s ≡ true
unfolding is_real
real_early y m d h i s a b c e f g j k l =
    let day : d ≤ days_in_month (pos y) m = omega (arith, (days_in_month_bounds (pos y) m).1) in
    grind (arith, nat_tests)

pub early_time : (p : List ℕ) → length p ≡ 8 → get_or p 0 0 ≡ 128 → 1 ≤ get_or p 1 0 → get_or p 1 0 ≤ 77 → 128 ≤ get_or p 2 0 → get_or p 2 0 < 256 → 129 ≤ get_or p 3 0 → get_or p 3 0 ≤ 140 → 129 ≤ get_or p 4 0 → get_or p 4 0 ≤ 156 → 128 ≤ get_or p 5 0 → get_or p 5 0 ≤ 151 → 128 ≤ get_or p 6 0 → get_or p 6 0 ≤ 187 → 128 ≤ get_or p 7 0 → get_or p 7 0 ≤ 187 → is_some (timestamp p) ≡ true
unfolding moment_of
early_time p n z c1 c2 y1 y2 m1 m2 d1 d2 h1 h2 i1 i2 s1 s2 =
    let t = short_time p n z (omega arith) y1 (omega arith) (omega arith) h1 i1 s1 in
    let real = real_early (get_or p 1 0 * 128 + (get_or p 2 0 - 128)) (get_or p 3 0 - 128) (get_or p 4 0 - 128) (get_or p 5 0 - 128) (get_or p 6 0 - 128) (get_or p 7 0 - 128) (omega arith) (omega arith) (omega arith) (omega arith) (omega arith) (omega arith) (omega arith) (omega arith) (omega arith) in
    rw (t, real) refl
