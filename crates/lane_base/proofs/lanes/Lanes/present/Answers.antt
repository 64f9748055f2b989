use Rattle.std.proofs.Common.{◌∙◌}
use Rattle.lane_base.specs.Bits.{has}
use Rattle.lane_base.proofs.BitLemmas.{has-or}
use Rattle.lane_base.proofs.LaneKinds.{present_lane}
use Rattle.lane_base.proofs.lanes.Lanes.present.Goals as goal

pub returns : goal.returns
returns c table i h legal =
    has-or c.args.self.now.null.0 c.solid.result.0 i
    ∙ present_lane table c.args.self.now i (has c.solid.result.0 i) legal (c.solid.ensures table i h legal)
