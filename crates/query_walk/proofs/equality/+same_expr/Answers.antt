use Rattle.std.proofs.Common.{◌≤◌, arith, length, refl}
use Rattle.check_meaning.specs.Operands.{operands}
use Rattle.check_meaning.proofs.OperandParts.{operand_falls}
use Rattle.query_walk.proofs.Listed.{same_more, same_all}
use Rattle.query_walk.proofs.Rebuilt.{same_of_head, same_heads}
use Rattle.query_tree.specs.View.{view}
use Rattle.query_walk.proofs.equality.+same_expr.Goals as goal

pub same_expr-requires : goal.same_expr-requires
same_expr-requires t c =
    let smaller = operand_falls c.args.a.now c.loop-at.at c.operand.result.now c.operand.ensures in
    (omega (arith, smaller, c.decreases), tt)

pub loop-at-preserved : goal.loop-at-preserved
loop-at-preserved t c =
    same_more (operands c.args.a.now) (operands c.args.b.now) c.loop-at.at _ _ c.operand.ensures c.operand-in-loop-at.ensures (c.same_expr.ensures.0 c.if-not-same_expr.false) c.loop-at.invariant

pub returns : goal.returns
returns t c =
    let as' = operands c.args.a.now in
    let bs = operands c.args.b.now in
    let past_a : length as' ≤ c.loop-at.at = omega (arith, c.operand_count-count.ensures, c.loop-at-test.false) in
    let past_b : length bs ≤ c.loop-at.at = omega (arith, c.operand_count-count.ensures, c.operand_count.ensures, c.if-count-operand_count.false, c.loop-at-test.false) in
    let heads = same_heads (view c.get.result.now) (view c.get-2.result.now) c.args.a.now c.args.b.now c.get.ensures c.get-2.ensures (c.same_head.ensures.0 c.if-not-same_head.false) in
    (λ h. same_of_head c.args.a.now c.args.b.now heads (same_all as' bs c.loop-at.at past_a past_b c.loop-at.invariant), λ e. refl)
