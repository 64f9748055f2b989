use Rattle.std.proofs.Common.{refl, sym, ◌∙◌, ap, arith}
use Rattle.check_meaning.specs.Operands.{operands}
use Rattle.check_meaning.proofs.OperandParts.{operand_falls}
use Rattle.check_meaning.specs.Parts.{none}
use Rattle.check_meaning.specs.Tests.{is_doubled}
use Rattle.query_walk.proofs.Walking.{found_first, found_later, found_in, not_in, not_found}
use Rattle.query_walk.proofs.parts.+has_doubled.Goals as goal

pub has_doubled-requires : goal.has_doubled-requires
has_doubled-requires t c =
    let smaller = operand_falls c.args.expr.now c.loop-at.at c.operand.result.now c.operand.ensures in
    (omega (arith, smaller, c.decreases), tt)

pub returns-then-is_doubled : goal.returns-then-is_doubled
returns-then-is_doubled t c = found_first none is_doubled c.args.expr.now refl (ap is_doubled (sym c.get.ensures) ∙ sym c.is_doubled.ensures ∙ c.if-is_doubled.true)

pub loop-at-init : goal.loop-at-init
loop-at-init t c = found_later none is_doubled c.args.expr.now refl (ap is_doubled (sym c.get.ensures) ∙ sym c.is_doubled.ensures ∙ c.if-is_doubled.false)

pub returns-then-has_doubled : goal.returns-then-has_doubled
returns-then-has_doubled t c = sym (found_in none is_doubled (operands c.args.expr.now) c.loop-at.at _ _ c.operand.ensures (sym c.has_doubled.ensures ∙ c.if-has_doubled.true) c.loop-at.invariant)

pub loop-at-preserved : goal.loop-at-preserved
loop-at-preserved t c = not_in none is_doubled (operands c.args.expr.now) c.loop-at.at _ _ c.operand.ensures (sym c.has_doubled.ensures ∙ c.if-has_doubled.false) c.loop-at.invariant

pub returns : goal.returns
returns t c = sym (not_found none is_doubled (operands c.args.expr.now) c.loop-at.at _ (omega (arith, c.loop-at-test.false, c.operand_count-at-end.ensures)) c.loop-at.invariant)
