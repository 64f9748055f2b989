use Rattle.lane_base.specs.Bits.{has}
use Rattle.lane_base.proofs.BitLemmas.{has-zero}
use Rattle.lane_base.proofs.LaneKinds.{one_tree}
use Rattle.lane_base.proofs.lanes.Lanes.trees.Goals as goal

pub invariant_of-result : goal.invariant_of-result
invariant_of-result c = record { disjoint = λ k. simp has-zero (one_tree (has c.args.nested.0 k)) }
