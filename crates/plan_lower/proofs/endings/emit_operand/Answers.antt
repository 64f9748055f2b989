use Rattle.std.proofs.Common.{sym, subst}
use Rattle.tree_meaning.specs.WellFormed.{IsFormed}
use Rattle.plan_lower.specs.Emitting.{Emits}
use Rattle.plan_lower.proofs.EndRegisters.{operand_emitted}
use Rattle.plan_lower.proofs.endings.emit_operand.Goals as goal

pub emit_expr-requires-clause-formed : goal.emit_expr-requires-clause-formed
emit_expr-requires-clause-formed c = subst IsFormed (sym c.get.ensures) c.requires.formed.1

pub returns : goal.returns
returns c =
    let old = c.args.builder.now in
    let new = c.emit_expr.new.builder in
    let r = c.in_ok-register.register in
    operand_emitted old new c.args.name c.args.of.now c.args.mask r c.requires.formed (subst (λ e. Emits old new e c.args.mask r) c.get.ensures c.in_ok-register.ensures)
