use Rattle.lane_base.specs.Bits.{has}
use Rattle.lane_base.proofs.BitLemmas.{has-zero}
use Rattle.lane_base.proofs.LaneKinds.{null_or_time}
use Rattle.lane_base.proofs.lanes.Lanes.times.Goals as goal

pub invariant_of-result : goal.invariant_of-result
invariant_of-result c = record { disjoint = λ k. simp has-zero (null_or_time (has c.args.null.0 k) (has c.args.moment.0 k) (c.requires k)) }
