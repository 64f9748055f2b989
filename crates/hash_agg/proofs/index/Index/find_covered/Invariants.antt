use Rattle.std.proofs.Common.{ℕ, ◌<◌, map, length, get_or}
use Rattle.key_places.specs.declared.row.PlaceRow.{PlaceRow}
use Rattle.key_places.specs.Placed.{row_at}
use Rattle.hash_agg.specs.Entries.{entry_of}
use Rattle.hash_agg.specs.Covers.{HasNone}
use Rattle.hash_agg.proofs.index.Index.find_covered.Given as goal

abbrev pub invariant-loop-step : goal.invariant-loop-step
invariant-loop-step w l =
    (t : ℕ) (r : PlaceRow) → t < l.step
    → HasNone l.hash l.self.hashes.items (w.K.RowKeys.values l.keys) (map entry_of l.all) (get_or l.self.rows.items (row_at l.hash (length l.self.rows.items) t) r)
