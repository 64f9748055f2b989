use Rattle.std.proofs.Common.{length, All}
use Rattle.worker_merge.specs.Pieces.{IsPiece, AreOwn}
use Rattle.worker_merge.proofs.slots.slots_of.Given as goal

-- the workers that are left, and the slots
abbrev pub invariant-loop-worker : goal.invariant-loop-worker
invariant-loop-worker l = record {
  left : All (λ w. All (IsPiece l.job l.fields l.blocks) w.pieces.items) l.workers.items;
  own : AreOwn l.job l.fields l.blocks l.slots.items;
}

abbrev pub decreases-loop-worker : goal.decreases-loop-worker
decreases-loop-worker l = length l.workers.items
