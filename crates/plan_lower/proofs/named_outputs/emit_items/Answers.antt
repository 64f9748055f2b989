use Rattle.std.proofs.Common.{sym, subst}
use Rattle.tree_meaning.specs.WellFormed.{IsFormed, IsOutput}
use Rattle.query_tree.specs.Parts.{item_view}
use Rattle.plan_lower.specs.Emitting.{Emits}
use Rattle.plan_lower.proofs.Items.{all_at}
use Rattle.plan_lower.proofs.Outputs.{named_more, outputs_more}
use Rattle.plan_lower.proofs.Showing.{stays_begun}
use Rattle.plan_lower.proofs.named_outputs.emit_items.Goals as goal

pub emit_expr-requires-clause-begun : goal.emit_expr-requires-clause-begun
emit_expr-requires-clause-begun c = stays_begun c.args.builder.now c.loop-at.builder c.args.mask c.requires.begun c.loop-at.invariant.1.extends

pub emit_expr-requires-clause-formed : goal.emit_expr-requires-clause-formed
emit_expr-requires-clause-formed c =
    subst IsFormed (sym c.get.ensures) (all_at IsOutput c.args.items.now c.loop-at.at (item_view c.item_at.result.now) c.item_at.ensures c.requires.formed).0

pub loop-at-preserved : goal.loop-at-preserved
loop-at-preserved c =
    let name = c.in_ok-name.name in
    let register = c.in_ok-register.register in
    let mid = c.loop-at.builder in
    let new = c.emit_expr.new.builder in (
      named_more c.loop-at.outs c.push.new.self c.args.names.now c.loop-at.at name register (rw c.in_ok-name.ensures c.name_at.ensures) c.in_ok-push.ensures.ok c.loop-at.invariant.0,
      outputs_more c.args.builder.now mid new c.loop-at.outs c.push.new.self c.args.items.now c.loop-at.at c.args.mask register (item_view c.item_at.result.now) name c.requires.begun.mask c.item_at.ensures
          c.in_ok-push.ensures.ok c.loop-at.invariant.1 (subst (λ e. Emits mid new e c.args.mask register) c.get.ensures c.in_ok-register.ensures),
    )
