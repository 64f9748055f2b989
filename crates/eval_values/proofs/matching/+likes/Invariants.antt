use Rattle.std.proofs.Common.{◌+◌, ◌*◌, length}
use Rattle.eval_values.proofs.matching.+likes.Given as goal

abbrev pub decreases-some_suffix_likes : goal.decreases-some_suffix_likes
decreases-some_suffix_likes l = 2 * (length l.pattern.now + length l.text.now) + 1

abbrev pub decreases-likes : goal.decreases-likes
decreases-likes l = 2 * (length l.pattern.now + length l.text.now)
