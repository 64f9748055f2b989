use Rattle.std.proofs.Common.{◌≡◌, map, take}
use Rattle.batch_groups.proofs.sink.names_of.Given as goal

abbrev pub invariant-loop-at : goal.invariant-loop-at
invariant-loop-at l = l.names.items ≡ take l.at (map (λ a. a.0) l.fn.aggs)
