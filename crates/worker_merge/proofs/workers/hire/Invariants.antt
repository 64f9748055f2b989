use Rattle.std.proofs.Common.{◌≡◌, ◌+◌, length, All}
use Rattle.scan_core.specs.Board.{empty_view}
use Rattle.scan_board.specs.declared.board.Board.{Board}
use Rattle.scan_board.specs.Seats.{BelongsTo, view_of}
use Rattle.worker_merge.specs.Draws.{IsFresh}
use Rattle.worker_merge.proofs.workers.hire.Given as goal

-- the seats that are left, and the workers of the others
abbrev pub invariant-loop-seat : goal.invariant-loop-seat
invariant-loop-seat g l = record {
  fresh : (b : Board) → All (λ s. BelongsTo b s × (view_of s ≡ empty_view)) l.fn.seats
      → All (λ s. BelongsTo b s × (view_of s ≡ empty_view)) l.seats × All (IsFresh g.S.SharedSink.begins l.root b) l.workers.items;
  count : length l.workers.items + length l.seats ≡ length l.fn.seats;
}

abbrev pub decreases-loop-seat : goal.decreases-loop-seat
decreases-loop-seat g l = length l.seats
