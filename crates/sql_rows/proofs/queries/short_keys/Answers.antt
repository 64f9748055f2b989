use Rattle.std.proofs.Common.{arith, sym, refl}
use Rattle.query_tree.specs.Parts.{key_view}
use Rattle.sql_rows.specs.RowPaths.{short_key}
use Rattle.sql_rows.proofs.Shortened.{one_more_image, nothing_at, finished, pair_is}
use Rattle.sql_rows.proofs.queries.short_keys.Goals as goal

pub loop-at-preserved : goal.loop-at-preserved
loop-at-preserved c = rw c.in_ok-push.ensures.ok (one_more_image (short_key c.args.row.now) c.args.list.now c.loop-at.all _ c.loop-at.at (key_view c.in-Some.key.now) (c.in_ok-expr.expr, c.in-Some.key.now.falling) c.loop-at.invariant (sym c.in-Some.ensures) (pair_is _ _ _ _ c.in_ok-expr.ensures refl))

pub returns : goal.returns
returns c = finished (short_key c.args.row.now) c.args.list.now c.loop-at.all _ c.loop-at.at c.loop-at.invariant (omega arith)

pub unreachable-requires : goal.unreachable-requires
unreachable-requires c = nothing_at c.args.list.now c.loop-at.at (sym c.in_default.ensures) (omega arith)
