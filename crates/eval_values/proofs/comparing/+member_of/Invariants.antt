use Rattle.std.proofs.Common.{length}
use Rattle.eval_values.proofs.comparing.+member_of.Given as goal

abbrev pub decreases-member_of : goal.decreases-member_of
decreases-member_of l = length l.members.now
