use Rattle.std.proofs.Common.{refl, ap, sym, subst, ◌∙◌, IfOk}
use Rattle.tree_meaning.specs.Tree.{name, at}
use Rattle.eval_meaning.specs.Paths.{step_of}
use Rattle.program_meaning.specs.Instructions as instr
use Rattle.query_tree.specs.View.{step_view}
use Rattle.plan_lower.specs.Emitting.{Applies}
use Rattle.program_meaning.specs.Registers.{after, value_at}
use Rattle.plan_lower.proofs.Showing.{put_shows}
use Rattle.plan_lower.proofs.paths.emit_step.Goals as goal

pub returns-in_ok-name-in-Name : goal.returns-in_ok-name-in-Name
returns-in_ok-name-in-Name c =
    let field = instr.field c.args.mask c.args.of c.in_ok-name-in-Name.name in
    subst (λ s. IfOk c.put.result (λ r. Applies c.args.builder.now c.put.new.self (step_of s) c.args.mask c.args.of r))
    (ap name c.in_ok-name-in-Name.ensures ∙ ap step_view (sym c.in-Name.is))
    (put_shows c.put.result c.args.builder.now c.put.new.self field c.args.mask (λ l. step_of (name c.in_ok-name-in-Name.name) (value_at (after l c.args.builder.now) c.args.of)) refl (λ l. refl) c.put.ensures.ok c.put.ensures.number)

pub returns-in-At : goal.returns-in-At
returns-in-At c =
    let item = instr.at c.args.mask c.args.of c.in-At.at in
    subst (λ s. IfOk c.put-in-At.result (λ r. Applies c.args.builder.now c.put-in-At.new.self (step_of s) c.args.mask c.args.of r))
    (ap step_view (sym c.in-At.is))
    (put_shows c.put-in-At.result c.args.builder.now c.put-in-At.new.self item c.args.mask (λ l. step_of (at c.in-At.at) (value_at (after l c.args.builder.now) c.args.of)) refl (λ l. refl) c.put-in-At.ensures.ok c.put-in-At.ensures.number)
