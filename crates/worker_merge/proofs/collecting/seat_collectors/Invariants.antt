use Rattle.std.proofs.Common.{◌≡◌, length, All}
use Rattle.scan_core.specs.Board.{empty_view}
use Rattle.scan_board.specs.declared.board.Board.{Board}
use Rattle.scan_board.specs.Seats.{BelongsTo, view_of}
use Rattle.worker_merge.specs.Pieces.{IsIdle}
use Rattle.worker_merge.proofs.collecting.seat_collectors.Given as goal

-- the seats that are left, and the workers of the others
abbrev pub invariant-loop-seat : goal.invariant-loop-seat
invariant-loop-seat l = (b : Board) → All (λ s. BelongsTo b s × (view_of s ≡ empty_view)) l.fn.seats
    → All (λ s. BelongsTo b s × (view_of s ≡ empty_view)) l.seats × All (IsIdle b) l.workers.items

abbrev pub decreases-loop-seat : goal.decreases-loop-seat
decreases-loop-seat l = length l.seats
