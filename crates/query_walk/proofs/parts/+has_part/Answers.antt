use Rattle.std.proofs.Common.{sym, ◌∙◌, ap, arith}
use Rattle.check_meaning.specs.Operands.{operands}
use Rattle.check_meaning.proofs.OperandParts.{operand_falls}
use Rattle.query_walk.specs.Asked.{is_stop, is_meant}
use Rattle.query_walk.proofs.Walking.{stopped, found_first, found_later, found_in, not_in, not_found}
use Rattle.query_walk.proofs.parts.+has_part.Goals as goal

pub has_part-requires : goal.has_part-requires
has_part-requires t c =
    let smaller = operand_falls c.args.expr.now c.loop-at.at c.operand.result.now c.operand.ensures in
    (omega (arith, smaller, c.decreases), tt)

pub returns-then-is_stop : goal.returns-then-is_stop
returns-then-is_stop t c = stopped (is_stop c.args.asked c.args.keys.now) (is_meant c.args.asked) c.args.expr.now (sym c.is_stop.ensures ∙ c.if-is_stop.true)

pub returns-then-is_meant : goal.returns-then-is_meant
returns-then-is_meant t c = found_first (is_stop c.args.asked c.args.keys.now) (is_meant c.args.asked) c.args.expr.now (sym c.is_stop.ensures ∙ c.if-is_stop.false) (ap (is_meant c.args.asked) (sym c.get.ensures) ∙ sym c.is_meant.ensures ∙ c.if-is_meant.true)

pub loop-at-init : goal.loop-at-init
loop-at-init t c = found_later (is_stop c.args.asked c.args.keys.now) (is_meant c.args.asked) c.args.expr.now (sym c.is_stop.ensures ∙ c.if-is_stop.false) (ap (is_meant c.args.asked) (sym c.get.ensures) ∙ sym c.is_meant.ensures ∙ c.if-is_meant.false)

pub returns-then-has_part : goal.returns-then-has_part
returns-then-has_part t c = sym (found_in (is_stop c.args.asked c.args.keys.now) (is_meant c.args.asked) (operands c.args.expr.now) c.loop-at.at _ _ c.operand.ensures (sym c.has_part.ensures ∙ c.if-has_part.true) c.loop-at.invariant)

pub loop-at-preserved : goal.loop-at-preserved
loop-at-preserved t c = not_in (is_stop c.args.asked c.args.keys.now) (is_meant c.args.asked) (operands c.args.expr.now) c.loop-at.at _ _ c.operand.ensures (sym c.has_part.ensures ∙ c.if-has_part.false) c.loop-at.invariant

pub returns : goal.returns
returns t c = sym (not_found (is_stop c.args.asked c.args.keys.now) (is_meant c.args.asked) (operands c.args.expr.now) c.loop-at.at _ (omega (arith, c.loop-at-test.false, c.operand_count-at-end.ensures)) c.loop-at.invariant)
