use Rattle.std.proofs.Common.{sym, arith}
use Rattle.ion_cells.proofs.RealDays.{early_time}
use Rattle.ion_cells.proofs.times.is_timestamp.Goals as goal

pub returns-then-second-le187 : goal.returns-then-second-le187
returns-then-second-le187 c =
    sym (early_time c.args.payload.now c.if-payload-eq8.true c.if-payload.true c.if-century-ge1.true c.if-century-le77.true c.if-year-ge128.true (omega (arith, c.type_inv.payload 2)) c.if-month-ge129.true c.if-month-le140.true c.if-day-ge129.true c.if-day-le156.true c.if-hour-ge128.true c.if-hour-le151.true c.if-minute-ge128.true c.if-minute-le187.true c.if-second-ge128.true c.if-second-le187.true)
