use Rattle.order_limit.proofs.Joining.{stands_next}
use Rattle.order_limit.proofs.heap.add_rows.Goals as goal

pub loop-row-preserved : goal.loop-row-preserved
loop-row-preserved c = record {
  kept = c.in-Ok.ensures.kept;
  stands = stands_next c.args.falling.now c.args.most c.args.rows.now.items c.loop-row.rows.items c.add_row.new.rows.items c.loop-row.yielded c.in-Some.row c.in-Ok.ensures.adds c.loop-row.invariant.stands;
}
