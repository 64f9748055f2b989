use Rattle.std.proofs.Common.{◌≡◌, ◌++◌, take}
use Rattle.std.specs.List.{flat_map}
use Rattle.plan_lower.specs.Listing.{sort_line}
use Rattle.plan_lower.proofs.end_lines.put_sorts.Given as goal

abbrev pub invariant-loop-at : goal.invariant-loop-at
invariant-loop-at l = l.text ≡ l.fn.text ++ flat_map sort_line (take l.at l.sorts)
