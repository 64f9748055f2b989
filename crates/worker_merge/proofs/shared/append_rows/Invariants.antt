use Rattle.std.proofs.Common.{◌≡◌, ◌++◌, reverse, length}
use Rattle.worker_merge.proofs.shared.append_rows.Given as goal

-- the rows taken off are added
abbrev pub invariant-loop-row : goal.invariant-loop-row
invariant-loop-row l = l.into ++ reverse l.rows ≡ l.fn.into ++ reverse l.initial.rows

abbrev pub decreases-loop-row : goal.decreases-loop-row
decreases-loop-row l = length l.rows
