use Rattle.std.proofs.Common.{◌∙◌, sym}
use Rattle.ion_cells.proofs.ShortTimes.{short_time}
use Rattle.ion_cells.proofs.times.micros_of.Goals as goal

pub returns-then-second-ge128 : goal.returns-then-second-ge128
returns-then-second-ge128 c =
    let t = short_time c.args.payload.now c.if-payload-eq8.true c.if-payload.true c.if-century-lt128.true c.if-year-ge128.true c.if-month-ge128.true c.if-day-ge128.true c.if-hour-ge128.true c.if-minute-ge128.true c.if-second-ge128.true in
    c.moment_of.ensures ∙ (rw (c.from.ensures, c.from-then-second-ge128.ensures, c.from-then-second-ge128-2.ensures, c.from-then-second-ge128-3.ensures, c.from-then-second-ge128-4.ensures, c.from-then-second-ge128-5.ensures, c.from-then-second-ge128-6.ensures) (sym t))
