use Rattle.std.proofs.Common.{length, ◌-◌}
use Rattle.std.specs.List.Sorted.{IsPermutation}
use Rattle.order_limit.specs.Heaps.{row_before, IsHeapBut}
use Rattle.order_limit.proofs.heap.sink_first.Given as goal

abbrev pub invariant-loop-at : goal.invariant-loop-at
invariant-loop-at l = record {
  heap : IsHeapBut (row_before l.falling) l.rows.items l.at;
  moved : IsPermutation l.fn.rows.items l.rows.items;
}

abbrev pub decreases-loop-at : goal.decreases-loop-at
decreases-loop-at l = length l.rows.items - l.at
