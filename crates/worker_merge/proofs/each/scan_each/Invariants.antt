use Rattle.std.proofs.Common.{◌≡◌, None, take}
use Rattle.scan_meaning.specs.Batches.{first_bad}
use Rattle.scan_files.specs.Places.{blocks_held}
use Rattle.worker_merge.specs.Hands.{HandsInOrder}
use Rattle.worker_merge.proofs.each.scan_each.Given as goal

-- the blocks before this one are good, and their rows were handed on
abbrev pub invariant-loop-number : goal.invariant-loop-number
invariant-loop-number g l = record {
  job : l.frame.job ≡ l.job;
  good : first_bad (blocks_held l.fields (take l.number l.blocks)) ≡ None;
  hands : HandsInOrder g.S.RowSink.grew l.job (blocks_held l.fields (take l.number l.blocks)) l.fn.sink l.sink 0 l.frame.chunks 0 l.frame.kept;
}
