use Rattle.std.proofs.Common.{arith}
use Rattle.lane_base.proofs.CountLanes.{count_ones-lanes}
use Rattle.lane_base.proofs.mask.LaneMask.count.Goals as goal

pub returns : goal.returns
returns c = count_ones-lanes 16 c.args.self.0 (omega arith)
