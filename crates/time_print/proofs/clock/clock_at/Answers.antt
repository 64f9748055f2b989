-- The date that jiff gives for the day number is that of the day number.
use Rattle.std.proofs.Common.{◌≡◌, arith, to_z, of_z, to_z-of_z, w16, w64, ◌∙◌, refl}
use Rattle.std.specs.Prelude.{unsigned_abs}
use Rattle.jiff_core.specs.Calendar.{days_from_civil}
use Rattle.jiff_core.proofs.SignedLemmas.{signed_arith, signed_casts}
use Rattle.time_meaning.specs.Printed.{day_at}
use Rattle.time_print.proofs.Dates.{IsDateOf, date_of}
use Rattle.time_print.proofs.clock.clock_at.Goals as goal

-- what jiff answers is the date of the day
shown : (c : goal.After-unsigned_abs) → IsDateOf (day_at c.args.time) (unsigned_abs c.from_days_since_min-date.result.year) c.from_days_since_min-date.result.month c.from_days_since_min-date.result.day
shown c =
    let d = c.from_days_since_min-date.result in
    let r = c.requires in
    let as_is : to_z w64 (of_z w64 c.args.time) ≡ c.args.time = to_z-of_z {w = w64} c.ranges.time in
    let e : c.div_euclid-day.result ≡ day_at c.args.time = c.div_euclid-day.ensures ∙ (rw as_is refl) in
    let k = c.from_days_since_min-date.ensures in
    let days : days_from_civil d.year d.month d.day ≡ day_at c.args.time = omega (arith, signed_casts, k, e) in
    date_of d.year d.month d.day (day_at c.args.time) (d.year_in, d.month_in, d.day_in) (omega (arith, signed_arith)) days

size_is : (c : goal.After-unsigned_abs) → c.unsigned_abs.result ≡ unsigned_abs c.from_days_since_min-date.result.year
size_is c =
    let d = c.from_days_since_min-date.result in
    let year : to_z w16 (of_z w16 d.year) ≡ d.year = to_z-of_z {w = w16} (omega (arith, signed_arith, d.year_in)) in
    c.unsigned_abs.ensures.value ∙ (rw year refl)

pub returns-clause-year : goal.returns-clause-year
returns-clause-year c = size_is c ∙ (shown c).year_is

pub returns-clause-month : goal.returns-clause-month
returns-clause-month c = (shown c).month_is

pub returns-clause-day : goal.returns-clause-day
returns-clause-day c = (shown c).day_is

pub returns-clause-year_in : goal.returns-clause-year_in
returns-clause-year_in c =
    let w = shown c in
    rw (size_is c) (w.year_low, w.year_high)
