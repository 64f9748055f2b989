use Rattle.lane_base.proofs.BitLemmas.{has-or}
use Rattle.lane_base.proofs.LaneKinds.{solid_lane}
use Rattle.lane_base.proofs.lanes.Lanes.solid.Goals as goal

pub returns : goal.returns
returns c table i h legal = simp has-or (solid_lane table c.args.self.now i legal)
