use Rattle.eval_meaning.proofs.LikesExact.{likes_is}
use Rattle.eval_meaning.proofs.likes_is_exact.Goals as goal

pub returns : goal.returns
returns c = likes_is
