use Rattle.std.proofs.Common.{refl, sym, subst, IfOk}
use Rattle.eval_meaning.specs.Times.{shift_of}
use Rattle.program_meaning.specs.Instructions as instr
use Rattle.program_meaning.specs.Registers.{after, value_at}
use Rattle.query_tree.specs.View.{view}
use Rattle.plan_lower.specs.Operands.{of_operands}
use Rattle.plan_lower.specs.Emitting.{AppliesTwo}
use Rattle.plan_lower.proofs.Showing.{put_shows}
use Rattle.plan_lower.proofs.operators.put_two.Goals as goal

pub returns-in-Shift : goal.returns-in-Shift
returns-in-Shift c =
    let old = c.args.builder.now in
    let new = c.put.new.self in
    let m = c.args.mask in
    let part = c.in-Shift.part in
    let a = c.args.a in
    let b = c.args.b in
    subst (λ e. IfOk c.put.result (λ r. AppliesTwo old new (of_operands (view e)) m a b r)) (sym c.in-Shift.is)
    (put_shows c.put.result old new (instr.shift m part a b) m (λ l. shift_of part (value_at (after l old) a) (value_at (after l old) b)) refl (λ l. refl) c.put.ensures.ok c.put.ensures.number)
