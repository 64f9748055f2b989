use Rattle.std.proofs.Common.{◌≡◌, arith, to_z, of_z, to_z-of_z, pos, ◌+◌, ◌*◌, ◌+ℤ◌, ◌-ℤ◌, ◌*ℤ◌, refl, w64, w32, w16, w8, ◌∙◌, ap}
use Rattle.std.proofs.lemmas.Int.{to_z_pos}
use Rattle.std.specs.Result.{IsOk}
use Rattle.jiff_core.specs.Calendar.{IsDate, days_from_civil}
use Rattle.jiff_core.proofs.SignedLemmas.{signed_arith}
use Rattle.time_meaning.specs.Texts.{in_range}
use Rattle.time_text.proofs.Locals.{local_is, date_is}
use Rattle.time_text.proofs.local_time.Goals as goal

pub returns : goal.returns
returns c =
    let y : to_z w16 c.args.year ≡ pos c.args.year = to_z_pos w16 c.args.year (omega arith) in
    let m : to_z w8 c.args.month ≡ pos c.args.month = to_z_pos w8 c.args.month (omega arith) in
    let d : to_z w8 c.args.day ≡ pos c.args.day = to_z_pos w8 c.args.day (omega arith) in
    let ok : IsOk c.new.result = rw c.in-Ok.is refl in
    let date : IsDate (pos c.args.year) (pos c.args.month) (pos c.args.day) = date_is _ _ _ _ _ _ y m d (c.new.ensures.succeeds.0 ok) in
    let v = c.in-Ok.ensures.value in
    let day : c.to_unix_epoch_day.result ≡ days_from_civil (pos c.args.year) c.args.month c.args.day =
    let mm : c.in-Ok.date.month ≡ c.args.month = omega (arith, signed_arith, v.1, m) in
    let dd : c.in-Ok.date.day ≡ c.args.day = omega (arith, signed_arith, v.2, d) in
    c.to_unix_epoch_day.ensures.value ∙ (rw (v.0, y, mm, dd) refl) in
    let e = c.to_unix_epoch_day.ensures.bound in
    let f1 : c.from-day.result ≡ c.to_unix_epoch_day.result = c.from-day.ensures ∙ to_z-of_z {w = w32} (omega (arith, signed_arith)) in
    let r = c.requires in
    let g1 : to_z w64 (of_z w64 c.from-day.result) ≡ c.from-day.result = to_z-of_z {w = w64} (omega (arith, signed_arith)) in
    let g2 : to_z w64 (of_z w64 c.at_clock.result) ≡ c.at_clock.result = to_z-of_z {w = w64} (omega (arith, signed_arith)) in
    let g3 : to_z w64 (of_z w64 c.args.ahead) ≡ c.args.ahead = to_z-of_z {w = w64} (omega (arith, signed_arith)) in
    let g4 : to_z w64 (of_z w64 c.in_utc.result) ≡ c.in_utc.result = to_z-of_z {w = w64} (omega (arith, signed_arith)) in
    let clock : c.at_clock.result ≡ c.to_unix_epoch_day.result *ℤ pos 86_400_000_000 +ℤ pos (((c.args.hour * 60 + c.args.minute) * 60 + c.args.second) * 1_000_000 + c.args.micros) = c.at_clock.ensures ∙ (rw (g1, f1) refl) in
    let moment : c.in_utc.result ≡ c.at_clock.result -ℤ c.args.ahead *ℤ pos 60_000_000 = c.in_utc.ensures ∙ (rw (g2, g3) refl) in
    c.in_range.ensures ∙ ap in_range (g4 ∙ moment)
    ∙ local_is c.args.year c.args.month c.args.day c.args.hour c.args.minute c.args.second c.args.micros date (omega arith) (omega arith) (omega arith) c.to_unix_epoch_day.result c.at_clock.result c.args.ahead day clock
