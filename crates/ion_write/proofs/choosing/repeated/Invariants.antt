use Rattle.std.proofs.Common.{◌≡◌, ◌++◌, ◌-◌, drop}
use Rattle.ion_write.specs.Mentions.{shown, repeats}
use Rattle.ion_write.proofs.choosing.repeated.Given as goal

abbrev pub invariant-loop-at : goal.invariant-loop-at
invariant-loop-at l = shown l.twice.items ++ repeats (shown (drop (l.at - 1) l.all.items)) ≡ repeats (shown l.all.items)
