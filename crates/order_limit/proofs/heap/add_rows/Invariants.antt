use Rattle.std.proofs.Common.{◌++◌, List, map}
use Rattle.snel_values.specs.Made.{row_view}
use Rattle.order_limit.specs.Arranged.{Row, AreKeyed}
use Rattle.order_limit.specs.Heaps.{IsKept, top_of}
use Rattle.order_limit.specs.Top.{StandsFor}
use Rattle.order_limit.proofs.heap.add_rows.Given as goal

-- the rows so far were added
abbrev pub invariant-loop-row : goal.invariant-loop-row
invariant-loop-row l = record {
  kept : IsKept l.falling l.most l.rows.items;
  stands : (all : List Row) → StandsFor (top_of l.falling l.most l.fn.rows.items) all → AreKeyed l.falling (map row_view l.yielded) → StandsFor (top_of l.falling l.most l.rows.items) (all ++ map row_view l.yielded);
}
