use Rattle.std.proofs.Common.{◌≡◌, ◌+◌, All, length}
use Rattle.scan_files.specs.Places.{blocks_held}
use Rattle.scan_board.specs.Seats.{BelongsTo, view_of}
use Rattle.worker_merge.specs.Hands.{HandsRows}
use Rattle.worker_merge.specs.Draws.{drawn, taken, IsSettled, IsDone}
use Rattle.worker_merge.proofs.settle.dismiss.Given as goal

-- the workers that are left, and what those of the seats came to
abbrev pub invariant-loop-worker : goal.invariant-loop-worker
invariant-loop-worker g l = record {
  done : All (IsDone g.S.RowSink.grew l.job l.fields l.blocks g.S.SharedSink.begins l.fn.sink l.board) l.workers.items;
  count : length l.workers.items + length l.seats ≡ length l.fn.workers.items;
  settled : All (λ s. BelongsTo l.board s × IsSettled l.fields l.blocks (view_of s)) l.seats;
  joined : HandsRows g.S.RowSink.grew l.job (blocks_held l.fields (drawn l.blocks (taken l.seats))) l.fn.sink l.sink 0 l.all.chunks 0 l.all.kept;
}

abbrev pub decreases-loop-worker : goal.decreases-loop-worker
decreases-loop-worker g l = length l.workers.items
