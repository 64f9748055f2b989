use Rattle.std.proofs.Common.{ap, ◌∙◌, length}
use Rattle.lane_base.specs.Bits.{has}
use Rattle.lane_ssa.proofs.RowLanes.{has_below}
use Rattle.lane_ssa.proofs.rows.live_of.Goals as goal

pub returns : goal.returns
returns c i h = ap (λ n. has n i) c.live.ensures.lanes ∙ has_below (length c.args.chunk.now) i
