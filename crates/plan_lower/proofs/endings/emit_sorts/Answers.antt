use Rattle.std.proofs.Common.{◌≡◌, Some, sym, subst, ap, ◌∙◌, arith, length}
use Rattle.std.specs.Prelude.{slice_get}
use Rattle.std.proofs.lemmas.List.{length-map}
use Rattle.tree_meaning.specs.Tree.{Ex, Query}
use Rattle.tree_meaning.specs.WellFormed.{IsFormed}
use Rattle.check_meaning.specs.Places.{order_ex}
use Rattle.program_meaning.specs.Simulation.{order_exs}
use Rattle.query_tree.specs.Parts.{key_view}
use Rattle.query_tree.specs.View.{view}
use Rattle.plan_lower.specs.Emitting.{EmitsAll}
use Rattle.plan_lower.proofs.Items.{all_at, whole}
use Rattle.plan_lower.proofs.AggregateForms.{orders_formed, sort_at}
use Rattle.plan_lower.proofs.Outputs.{listed_more}
use Rattle.plan_lower.proofs.Showing.{stays_begun}
use Rattle.plan_lower.proofs.endings.emit_sorts.Goals as goal

pub emit_expr-requires-clause-begun : goal.emit_expr-requires-clause-begun
emit_expr-requires-clause-begun c = stays_begun c.args.builder.now c.loop-at.builder c.args.mask c.requires c.loop-at.invariant.extends

pub emit_expr-requires-clause-formed : goal.emit_expr-requires-clause-formed
emit_expr-requires-clause-formed c =
    let q = c.args.checked.now in
    let x = key_view c.order_key.result.now in
    let there : slice_get q.order c.loop-at.at ≡ Some x = ap (λ (p : Query). slice_get p.order c.loop-at.at) (sym c.query.ensures.is) ∙ c.order_key.ensures in
    subst IsFormed (sym (c.get.ensures ∙ c.order_ex-key.ensures))
    (all_at IsFormed (order_exs q) c.loop-at.at (order_ex q.outs x.0) (sort_at q c.loop-at.at x there) (orders_formed q c.query.ensures.formed))

pub loop-at-preserved : goal.loop-at-preserved
loop-at-preserved c =
    let q = c.args.checked.now in
    let x = key_view c.order_key.result.now in
    let there : slice_get q.order c.loop-at.at ≡ Some x = ap (λ (p : Query). slice_get p.order c.loop-at.at) (sym c.query.ensures.is) ∙ c.order_key.ensures in
    listed_more c.args.builder.now c.loop-at.builder c.emit_expr.new.builder (order_exs q) c.loop-at.at c.args.mask c.in_ok-emit_expr.field-0 (order_ex q.outs x.0) (view c.get.result.now) c.loop-at.registers c.push.new.self
    c.requires.mask (sort_at q c.loop-at.at x there) (c.get.ensures ∙ c.order_ex-key.ensures) c.in_ok-push.ensures.ok c.loop-at.invariant c.in_ok-emit_expr.ensures

pub returns : goal.returns
returns c =
    let q = c.args.checked.now in
    let same = ap (λ (p : Query). length p.order) c.query.ensures.is in
    subst (λ es. EmitsAll c.args.builder.now c.loop-at.builder es c.args.mask c.loop-at.registers)
    (whole (order_exs q) c.loop-at.at (omega (arith, length-map q.order (λ k. order_ex q.outs k.0), same, c.loop-at-test.false, c.len-at-end.ensures))) c.loop-at.invariant
