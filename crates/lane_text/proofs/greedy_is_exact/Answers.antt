use Rattle.lane_text.proofs.Greedy.{greedy}
use Rattle.lane_text.proofs.greedy_is_exact.Goals as goal

pub returns : goal.returns
returns c = greedy
