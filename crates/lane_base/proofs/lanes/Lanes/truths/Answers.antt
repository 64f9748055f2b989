use Rattle.lane_base.proofs.BitLemmas.{has-zero}
use Rattle.lane_base.proofs.lanes.Lanes.truths.Goals as goal

pub invariant_of-result : goal.invariant_of-result
invariant_of-result c = record { disjoint = λ k. simp has-zero (c.requires k) }
