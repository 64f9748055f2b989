use Rattle.std.proofs.Common.{refl}
use Rattle.lane_base.proofs.BitLemmas.{has-zero}
use Rattle.lane_field.proofs.load.all_missing.Goals as goal

pub invariant_of-result : goal.invariant_of-result
invariant_of-result c = record { disjoint = λ k. rw (has-zero k) refl }
