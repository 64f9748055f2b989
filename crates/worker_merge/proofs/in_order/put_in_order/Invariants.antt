use Rattle.std.proofs.Common.{◌≡◌, None, take}
use Rattle.scan_meaning.specs.Batches.{first_bad}
use Rattle.scan_files.specs.Places.{blocks_held}
use Rattle.worker_merge.specs.Pieces.{HandsLines, AreOwn}
use Rattle.worker_merge.proofs.in_order.put_in_order.Given as goal

-- the blocks before this one are good, and their lines were added
abbrev pub invariant-loop-number : goal.invariant-loop-number
invariant-loop-number l = record {
  own : AreOwn l.job l.fields l.blocks l.slots.items;
  good : first_bad (blocks_held l.fields (take l.number l.blocks)) ≡ None;
  hands : HandsLines l.job (blocks_held l.fields (take l.number l.blocks)) l.fn.lines l.lines 0 l.all.chunks 0 l.all.kept;
}
