use Rattle.std.proofs.Common.{◌≡◌, ◌≤◌, ◌-◌, ◌+◌, ◌*◌, length, drop}
use Rattle.std.specs.Prelude.{is_some}
use Rattle.block_meaning.specs.CellReading.{cell_to, cells_by, pairs_by, blank_table}
use Rattle.ion_cells.proofs.check.+check.Given as goal

abbrev pub decreases-is_payload : goal.decreases-is_payload
decreases-is_payload l = 4 * l.room

abbrev pub decreases-check_to : goal.decreases-check_to
decreases-check_to l = 4 * l.room + 1

abbrev pub decreases-check_pair : goal.decreases-check_pair
decreases-check_pair l = 4 * l.room + 2

abbrev pub decreases-are_cells : goal.decreases-are_cells
decreases-are_cells l = 4 * l.room + 3

abbrev pub decreases-are_pairs : goal.decreases-are_pairs
decreases-are_pairs l = 4 * l.room + 3

abbrev pub invariant-are_cells-loop-at : goal.invariant-are_cells-loop-at
invariant-are_cells-loop-at l =
    (l.at ≤ length l.bytes)
    × (is_some (cells_by (cell_to (blank_table l.last) l.room) (length l.bytes) l.bytes)
    ≡ is_some (cells_by (cell_to (blank_table l.last) l.room) (length l.bytes - l.at) (drop l.at l.bytes)))

abbrev pub decreases-are_cells-loop-at : goal.decreases-are_cells-loop-at
decreases-are_cells-loop-at l = length l.bytes - l.at

abbrev pub invariant-are_pairs-loop-at : goal.invariant-are_pairs-loop-at
invariant-are_pairs-loop-at l =
    (l.at ≤ length l.bytes)
    × (is_some (pairs_by (cell_to (blank_table l.last) l.room) (blank_table l.last) 10 (length l.bytes) l.bytes)
    ≡ is_some (pairs_by (cell_to (blank_table l.last) l.room) (blank_table l.last) l.low (length l.bytes - l.at) (drop l.at l.bytes)))

abbrev pub decreases-are_pairs-loop-at : goal.decreases-are_pairs-loop-at
decreases-are_pairs-loop-at l = length l.bytes - l.at
