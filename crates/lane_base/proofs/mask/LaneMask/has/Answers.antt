use Rattle.std.proofs.Common.{ap, nat_eq}
use Rattle.std.proofs.lemmas.Nat.Bits.{shr_and_one}
use Rattle.lane_base.specs.Bits.{has}
use Rattle.lane_base.proofs.mask.LaneMask.has.Goals as goal

pub returns : goal.returns
unfolding has
returns c = ap (λ n. nat_eq n 1) (shr_and_one c.args.self.0 c.args.lane)
