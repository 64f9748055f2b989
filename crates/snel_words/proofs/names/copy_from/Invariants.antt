use Rattle.std.proofs.Common.{◌≡◌, ◌++◌, drop}
use Rattle.snel_words.proofs.names.copy_from.Given as goal

abbrev pub invariant-loop-i : goal.invariant-loop-i
invariant-loop-i l = drop l.at l.words ≡ l.copy ++ drop l.i l.words
