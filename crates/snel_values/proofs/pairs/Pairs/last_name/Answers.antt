use Rattle.snel_values.proofs.LastName.{last_is, above_last}
use Rattle.snel_values.proofs.pairs.Pairs.last_name.Goals as goal

pub returns-in-Some-clause-last : goal.returns-in-Some-clause-last
returns-in-Some-clause-last c = last_is _ _ _ _ _ c.deref.ensures.value c.in-Some.ensures.value c.as_str.ensures c.self.view_is

pub returns-in-Some-clause-above : goal.returns-in-Some-clause-above
returns-in-Some-clause-above c name = above_last c.args.self.now _ name (last_is _ _ _ _ _ c.deref.ensures.value c.in-Some.ensures.value c.as_str.ensures c.self.view_is)
