use Rattle.std.proofs.Common.{arith, sym}
use Rattle.query_tree.specs.Parts.{item_view}
use Rattle.sql_rows.specs.RowPaths.{short_item}
use Rattle.sql_rows.proofs.Shortened.{one_more_image, nothing_at, finished, pair_is}
use Rattle.sql_rows.proofs.queries.short_items.Goals as goal

pub loop-at-preserved : goal.loop-at-preserved
loop-at-preserved c = rw c.in_ok-push.ensures.ok (one_more_image (short_item c.args.row.now) c.args.list.now c.loop-at.all _ c.loop-at.at (item_view c.in-Some.item.now) (c.in_ok-expr.expr, c.in_ok-name.name) c.loop-at.invariant (sym c.in-Some.ensures) (pair_is _ _ _ _ c.in_ok-expr.ensures c.in_ok-name.ensures))

pub returns : goal.returns
returns c = finished (short_item c.args.row.now) c.args.list.now c.loop-at.all _ c.loop-at.at c.loop-at.invariant (omega arith)

pub unreachable-requires : goal.unreachable-requires
unreachable-requires c = nothing_at c.args.list.now c.loop-at.at (sym c.in_default.ensures) (omega arith)
