use Rattle.std.proofs.Common.{◌≡◌, ◌++◌, take}
use Rattle.worker_merge.proofs.in_order.append_lines.Given as goal

abbrev pub invariant-loop-at : goal.invariant-loop-at
invariant-loop-at l = l.into ≡ l.fn.into ++ take l.at l.other
