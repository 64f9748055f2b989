use Rattle.std.proofs.Common.{◌≡◌, take}
use Rattle.order_limit.proofs.top_rows.TopK.of_most.Given as goal

abbrev pub invariant-loop-at : goal.invariant-loop-at
invariant-loop-at l = l.flags.items ≡ take l.at l.falling
