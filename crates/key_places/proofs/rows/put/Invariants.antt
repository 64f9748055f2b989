use Rattle.std.proofs.Common.{◌≡◌, ℕ, ◌<◌, length, get_or}
use Rattle.key_places.specs.declared.row.PlaceRow.{PlaceRow}
use Rattle.key_places.specs.Placed.{IsFull, row_at}
use Rattle.key_places.proofs.rows.put.Given as goal

abbrev pub invariant-loop-step : goal.invariant-loop-step
invariant-loop-step l = record {
  same : l.rows ≡ l.initial.rows;
  full : (t : ℕ) (r : PlaceRow) → t < l.step → IsFull (get_or l.rows (row_at l.hash (length l.rows) t) r);
}
