use Rattle.std.proofs.Common.{◌∙◌}
use Rattle.query_walk.proofs.Searching.{same_is}
use Rattle.eval_row.proofs.Beside.{beside_here, beside_next}
use Rattle.eval_row.proofs.known.beside.Goals as goal

pub returns-then-same_expr : goal.returns-then-same_expr
returns-then-same_expr c =
    c.get.ensures ∙ beside_here c.args.exprs.now c.args.values.now c.args.of.now c.loop-at.at c.loop-at.invariant _ c.item.ensures (same_is _ _ c.same_expr.result c.same_expr.ensures ∙ c.if-same_expr.true)

pub loop-at-preserved : goal.loop-at-preserved
loop-at-preserved c =
    beside_next c.args.exprs.now c.args.values.now c.args.of.now c.loop-at.at c.loop-at.invariant _ c.item.ensures (same_is _ _ c.same_expr.result c.same_expr.ensures ∙ c.if-same_expr.false)
