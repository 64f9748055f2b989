use Rattle.std.proofs.Common.{◌≡◌, ◌++◌, take}
use Rattle.std.specs.List.{flat_map}
use Rattle.plan_lower.specs.Listing.{agg_line}
use Rattle.plan_lower.proofs.end_lines.put_aggs.Given as goal

abbrev pub invariant-loop-at : goal.invariant-loop-at
invariant-loop-at l = l.text ≡ l.fn.text ++ flat_map agg_line (take l.at l.aggs)
