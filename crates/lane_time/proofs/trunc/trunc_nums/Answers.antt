use Rattle.std.proofs.Common.{refl}
use Rattle.eval_meaning.specs.Times.{trunc}
use Rattle.lane_time.proofs.trunc.trunc_nums.Goals as goal

pub returns-in-Microsecond : goal.returns-in-Microsecond
unfolding trunc
returns-in-Microsecond c k h t = rw c.in-Microsecond.is refl
