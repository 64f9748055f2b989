use Rattle.std.proofs.Common.{length}
use Rattle.eval_values.proofs.functions.+coalesce.Given as goal

abbrev pub decreases-coalesce : goal.decreases-coalesce
decreases-coalesce l = length l.values.now
