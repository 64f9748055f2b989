use Rattle.std.proofs.Common.{◌≡◌, ◌-◌, false, length, All}
use Rattle.scan_board.specs.Seats.{blocks_of, BelongsTo, view_of}
use Rattle.worker_merge.specs.Pieces.{IsPiece}
use Rattle.worker_merge.proofs.collecting.collect.Given as goal

-- the lines of the blocks that were drawn are kept
abbrev pub invariant-loop-number : goal.invariant-loop-number
invariant-loop-number g l = record {
  belongs : BelongsTo l.board l.worker.seat;
  going : (view_of l.worker.seat).ended ≡ false;
  own : All (IsPiece l.job l.fields l.blocks) l.worker.pieces.items;
}

abbrev pub decreases-loop-number : goal.decreases-loop-number
decreases-loop-number g l = blocks_of l.board - length (view_of l.worker.seat).claims
