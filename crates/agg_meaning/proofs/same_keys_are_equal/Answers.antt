use Rattle.std.proofs.Common.{subst, true, ◌≡◌, List}
use Rattle.value_meaning.specs.Val.{Val}
use Rattle.agg_meaning.specs.Keys.{same_keys}
use Rattle.agg_meaning.proofs.Keys.{same_keys-exact, same_keys-same}
use Rattle.agg_meaning.proofs.same_keys_are_equal.Goals as goal

pub returns : goal.returns
returns c vs ws = (same_keys-exact vs ws, λ e. subst (λ (x : List Val). same_keys vs x ≡ true) e (same_keys-same vs))
