use Rattle.std.proofs.Common.{◌≡◌, ℕ, ◌<◌, length, get_or}
use Rattle.key_places.specs.Placed.{IsReached}
use Rattle.key_places.proofs.rows.put_all.Given as goal

abbrev pub invariant-loop-i : goal.invariant-loop-i
invariant-loop-i l = record {
  len : length l.rows ≡ length l.initial.rows;
  reached : (i d : ℕ) → i < l.i → IsReached l.rows (get_or l.hashes i d) i;
}
