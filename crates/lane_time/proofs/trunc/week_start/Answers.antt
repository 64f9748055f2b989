use Rattle.std.proofs.Common.{arith}
use Rattle.jiff_core.proofs.SignedLemmas.{signed_arith}
use Rattle.lane_time.proofs.Weeks.{week_start_is}
use Rattle.lane_time.proofs.trunc.week_start.Goals as goal

pub returns : goal.returns
returns c = omega (arith, signed_arith, week_start_is c.args.time, c.div_euclid.ensures)
