use Rattle.std.proofs.Common.{◌++◌, map, length}
use Rattle.std.specs.List.Sorted.{IsPermutation}
use Rattle.snel_values.specs.Made.{row_view}
use Rattle.order_limit.proofs.moving.to_vec.Given as goal

abbrev pub invariant-loop-row : goal.invariant-loop-row
invariant-loop-row l = IsPermutation l.initial.rows (l.rows ++ map row_view l.all.items)

abbrev pub decreases-loop-row : goal.decreases-loop-row
decreases-loop-row l = length l.rows
