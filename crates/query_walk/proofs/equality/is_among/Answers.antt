use Rattle.std.proofs.Common.{sym, arith, ◌∙◌}
use Rattle.check_meaning.specs.Same.{same_ex}
use Rattle.query_walk.proofs.Searching.{any_here, any_next, any_end, same_is}
use Rattle.query_walk.proofs.equality.is_among.Goals as goal

pub returns-then-same_expr : goal.returns-then-same_expr
returns-then-same_expr c = sym (any_here (same_ex c.args.expr.now) c.args.list.now c.loop-at.at _ _ c.item.ensures (same_is _ _ c.same_expr.result c.same_expr.ensures ∙ c.if-same_expr.true) c.loop-at.invariant)

pub loop-at-preserved : goal.loop-at-preserved
loop-at-preserved c = any_next (same_ex c.args.expr.now) c.args.list.now c.loop-at.at _ _ c.item.ensures (same_is _ _ c.same_expr.result c.same_expr.ensures ∙ c.if-same_expr.false) c.loop-at.invariant

pub returns : goal.returns
returns c = sym (any_end (same_ex c.args.expr.now) c.args.list.now c.loop-at.at _ (omega (arith, c.loop-at-test.false, c.len-at-end.ensures)) c.loop-at.invariant)
