use Rattle.std.proofs.Common.{◌≡◌, map, take}
use Rattle.query_tree.specs.View.{step_view}
use Rattle.query_walk.proofs.head.same_steps.Given as goal

abbrev pub invariant-loop-at : goal.invariant-loop-at
invariant-loop-at l = take l.at (map step_view l.a) ≡ take l.at (map step_view l.b)
