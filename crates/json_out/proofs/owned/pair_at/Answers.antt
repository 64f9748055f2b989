use Rattle.json_out.proofs.Members.{pair_there}
use Rattle.json_out.proofs.owned.pair_at.Goals as goal

pub returns : goal.returns
returns c = pair_there c.args.pairs.now c.args.at _ _ c.in-Some.ensures c.in-Some-value_at.ensures
