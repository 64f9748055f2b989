use Rattle.std.proofs.Common.{◌≡◌, take}
use Rattle.query_walk.proofs.copies.copy_steps.Given as goal

abbrev pub invariant-loop-at : goal.invariant-loop-at
invariant-loop-at l = l.all ≡ take l.at l.steps
