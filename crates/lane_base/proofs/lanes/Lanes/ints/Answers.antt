use Rattle.lane_base.specs.Bits.{has}
use Rattle.lane_base.proofs.BitLemmas.{has-zero}
use Rattle.lane_base.proofs.LaneKinds.{null_or_number}
use Rattle.lane_base.proofs.lanes.Lanes.ints.Goals as goal

pub invariant_of-result : goal.invariant_of-result
invariant_of-result c = record { disjoint = λ k. simp has-zero (null_or_number (has c.args.null.0 k) (has c.args.number.0 k) (c.requires k)) }
