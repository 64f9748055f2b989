use Rattle.std.proofs.Common.{length, All}
use Rattle.worker_merge.specs.Pieces.{IsPiece, AreOwn}
use Rattle.worker_merge.proofs.slots.put_all.Given as goal

-- the pieces that are left, and the slots
abbrev pub invariant-loop-piece : goal.invariant-loop-piece
invariant-loop-piece l = record {
  left : All (IsPiece l.job l.fields l.blocks) l.pieces.items;
  own : AreOwn l.job l.fields l.blocks l.slots;
}

abbrev pub decreases-loop-piece : goal.decreases-loop-piece
decreases-loop-piece l = length l.pieces.items
