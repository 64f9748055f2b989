use Rattle.std.proofs.Common.{sym, ◌∙◌, ◌+◌, arith, ap, drop}
use Rattle.std.specs.List.{flat_map}
use Rattle.check_meaning.specs.Operands.{operands}
use Rattle.check_meaning.specs.Parts.{parts}
use Rattle.query_walk.proofs.Walking.{gathered, gathered_first, gathered_next}
use Rattle.check_meaning.proofs.OperandParts.{operand_falls}
use Rattle.query_walk.proofs.parts.+gather.Goals as goal

pub gather-requires : goal.gather-requires
gather-requires t c =
    let smaller = operand_falls c.args.expr.now c.loop-at.at c.operand.result.now c.operand.ensures in
    (omega (arith, smaller, c.decreases), tt)

pub loop-at-init : goal.loop-at-init
loop-at-init t c = gathered_first c.args.found.now c.args.expr.now ∙ ap (λ f. gathered f (flat_map parts (operands c.args.expr.now))) (sym c.in_ok-add_aggregate.ensures)

pub loop-at-preserved : goal.loop-at-preserved
loop-at-preserved t c = c.loop-at.invariant ∙ gathered_next c.loop-at.found (operands c.args.expr.now) c.loop-at.at c.operand.result.now c.operand.ensures ∙ ap (λ f. gathered f (flat_map parts (drop (c.loop-at.at + 1) (operands c.args.expr.now)))) (sym c.in_ok-gather.ensures)
