use Rattle.std.proofs.Common.{◌≡◌, ◌∙◌, ap, eqb, false, arith, to_z, of_z, to_z-of_z, w64, ◌/◌, ◌%◌, ◌++◌, ◌∷◌, []}
use Rattle.std.proofs.lemmas.Bool.Decides.{nat_tests}
use Rattle.time_meaning.specs.Dates.{year_of, month_of, day_of}
use Rattle.time_meaning.specs.Printed.{day_at, micros_at, six, time_text}
use Rattle.time_print.proofs.Spelling.{Shows, whole, with_fraction}
use Rattle.time_print.proofs.times.put_time.Goals as goal

pub returns-then-clock-eq0 : goal.returns-then-clock-eq0
returns-then-clock-eq0 c =
    let k = c.clock_at-clock.ensures in
    let s = c.clock_at-clock.result in
    let as_is : to_z w64 (of_z w64 c.args.micros) ≡ c.args.micros = to_z-of_z {w = w64} c.ranges.micros in
    let show : Shows c.args.micros s.year s.month s.day s.second s.micros = record {
      year_is = k.year ∙ ap (λ t. year_of (day_at t)) as_is;
      month_is = k.month ∙ ap (λ t. month_of (day_at t)) as_is;
      day_is = k.day ∙ ap (λ t. day_of (day_at t)) as_is;
      second_is = k.second ∙ ap (λ t. micros_at t / 1_000_000) as_is;
      micros_is = k.micros ∙ ap (λ t. micros_at t % 1_000_000) as_is;
    } in
    let first = c.in_ok-push_all.ensures.ok ∙ ap (λ l. c.args.text.now ++ l) c.date_and_second.ensures in
    let e : c.push_all.new.self ++ 90 ∷ [] ≡ c.args.text.now ++ time_text c.args.micros =
    ap (λ l. l ++ 90 ∷ []) first ∙ whole c.args.micros c.args.text.now s.year s.month s.day s.second s.micros show c.if-clock-eq0.true in
    rw (← e) c.push_all-then-clock-eq0.ensures.ok

pub returns-else-clock-eq0 : goal.returns-else-clock-eq0
returns-else-clock-eq0 c =
    let k = c.clock_at-clock.ensures in
    let s = c.clock_at-clock.result in
    let as_is : to_z w64 (of_z w64 c.args.micros) ≡ c.args.micros = to_z-of_z {w = w64} c.ranges.micros in
    let show : Shows c.args.micros s.year s.month s.day s.second s.micros = record {
      year_is = k.year ∙ ap (λ t. year_of (day_at t)) as_is;
      month_is = k.month ∙ ap (λ t. month_of (day_at t)) as_is;
      day_is = k.day ∙ ap (λ t. day_of (day_at t)) as_is;
      second_is = k.second ∙ ap (λ t. micros_at t / 1_000_000) as_is;
      micros_is = k.micros ∙ ap (λ t. micros_at t % 1_000_000) as_is;
    } in
    let some : eqb s.micros 0 ≡ false = grind (arith, nat_tests, c.if-clock-eq0.false) in
    let first = c.in_ok-push_all.ensures.ok ∙ ap (λ l. c.args.text.now ++ l) c.date_and_second.ensures in
    let e : c.push_all.new.self ++ c.fraction.result ≡ c.args.text.now ++ time_text c.args.micros =
    ap (λ l. c.push_all.new.self ++ l) c.fraction.ensures ∙ ap (λ l. l ++ 46 ∷ (six s.micros ++ 90 ∷ [])) first
    ∙ with_fraction c.args.micros c.args.text.now s.year s.month s.day s.second s.micros show some in
    rw (← e) c.push_all-else-clock-eq0.ensures.ok
