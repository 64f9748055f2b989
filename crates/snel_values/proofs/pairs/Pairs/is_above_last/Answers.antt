use Rattle.std.proofs.Common.{refl}
use Rattle.snel_values.proofs.pairs.Pairs.is_above_last.Goals as goal

pub returns-in-None : goal.returns-in-None
returns-in-None c = (λ _. (c.in-None.ensures.above c.args.name.now).0 tt, λ _. refl)
