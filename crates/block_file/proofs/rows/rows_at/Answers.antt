use Rattle.std.proofs.Common.{length, drop, ap, arith, length-append, length-drop}
use Rattle.block_file.proofs.RowsRead.{walk_row, walk_end, walk_stop, walk_over}
use Rattle.block_file.proofs.rows.rows_at.Goals as goal

pub returns-in-None-clause-damaged : goal.returns-in-None-clause-damaged
returns-in-None-clause-damaged c e table has =
    walk_stop table _ c.loop-cells.cells.items c.args.bytes.now c.loop-cells.at c.args.count (c.loop-cells.invariant.walked table has) (c.in-None.ensures.none table has) (omega arith)

pub loop-cells-preserved : goal.loop-cells-preserved
loop-cells-preserved c = record {
  walked = λ table has.
      rw c.bytes.ensures.bytes (walk_row table _ c.loop-cells.cells.items c.push.new.self.items c.args.bytes.now c.loop-cells.at c.in-Some.cell (c.loop-cells.invariant.walked table has) (c.in-Some.ensures.row table has) c.in-Ok-push.ensures.items);
  few = omega (arith, ap length c.in-Ok-push.ensures.items, length-append c.loop-cells.cells.items);
  within = rw c.bytes.ensures.bytes c.in-Some.ensures.within;
}

pub returns-then-at-bytes-clause-damaged : goal.returns-then-at-bytes-clause-damaged
returns-then-at-bytes-clause-damaged c e table has =
    walk_over table _ c.loop-cells.cells.items (drop c.loop-cells.at c.args.bytes.now) c.args.count (c.loop-cells.invariant.walked table has) (omega arith) (omega (arith, length-drop c.loop-cells.at c.args.bytes.now))

pub returns-clause-rows : goal.returns-clause-rows
returns-clause-rows c table has =
    walk_end table _ c.loop-cells.cells.items (drop c.loop-cells.at c.args.bytes.now) c.args.count (c.loop-cells.invariant.walked table has) (omega (arith, length-drop c.loop-cells.at c.args.bytes.now)) (omega arith) (omega arith) (omega arith)
