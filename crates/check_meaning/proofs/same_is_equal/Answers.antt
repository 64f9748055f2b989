use Rattle.check_meaning.proofs.Same.{same_ex-is, same_ex-of}
use Rattle.check_meaning.proofs.same_is_equal.Goals as goal

pub returns : goal.returns
returns c a b = (λ h. same_ex-is a b h, λ e. same_ex-of a b e)
