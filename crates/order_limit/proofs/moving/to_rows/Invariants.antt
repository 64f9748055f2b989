use Rattle.std.proofs.Common.{◌≡◌, map}
use Rattle.snel_values.specs.Made.{row_view}
use Rattle.order_limit.proofs.moving.to_rows.Given as goal

abbrev pub invariant-loop-row : goal.invariant-loop-row
invariant-loop-row l = l.rows ≡ map row_view l.yielded
