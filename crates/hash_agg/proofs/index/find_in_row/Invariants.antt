use Rattle.std.proofs.Common.{◌≡◌, ℕ, ◌<◌, true, map, get_or}
use Rattle.lane_base.specs.Bits.{has}
use Rattle.hash_agg.specs.Entries.{entry_of}
use Rattle.hash_agg.specs.Covers.{IsNotAt}
use Rattle.hash_agg.proofs.index.find_in_row.Given as goal

abbrev pub invariant-loop-place : goal.invariant-loop-place
invariant-loop-place w l =
    (p : ℕ) → p < l.place → has l.found.0 p ≡ true
    → IsNotAt l.hash l.hashes (w.K.RowKeys.values l.keys) (map entry_of l.all) (get_or l.row.numbers p 0)
