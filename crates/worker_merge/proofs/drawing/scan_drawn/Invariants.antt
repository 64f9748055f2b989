use Rattle.std.proofs.Common.{◌≡◌, ◌-◌, length}
use Rattle.scan_files.specs.Places.{blocks_held}
use Rattle.scan_board.specs.Seats.{blocks_of, BelongsTo, view_of}
use Rattle.worker_merge.specs.Hands.{HandsInOrder}
use Rattle.worker_merge.specs.Draws.{drawn, IsClean}
use Rattle.worker_merge.proofs.drawing.scan_drawn.Given as goal

-- the rows of the blocks that were drawn are handed on
abbrev pub invariant-loop-number : goal.invariant-loop-number
invariant-loop-number g l = record {
  belongs : BelongsTo l.board l.worker.seat;
  job : l.frame.job ≡ l.job;
  clean : IsClean (view_of l.worker.seat);
  hands : HandsInOrder g.S.RowSink.grew l.job (blocks_held l.fields (drawn l.blocks (view_of l.worker.seat).claims)) l.fn.worker.sink l.worker.sink 0 l.frame.chunks 0 l.frame.kept;
}

abbrev pub decreases-loop-number : goal.decreases-loop-number
decreases-loop-number g l = blocks_of l.board - length (view_of l.worker.seat).claims
