use Rattle.std.proofs.Common.{refl, sym, subst, IfOk}
use Rattle.eval_meaning.specs.Logic.{not_of, is_of}
use Rattle.eval_meaning.specs.Numbers.{negative}
use Rattle.eval_meaning.specs.Casts.{cast_of}
use Rattle.eval_meaning.specs.Matching.{matching_of}
use Rattle.eval_meaning.specs.Times.{trunc_of, extract_of}
use Rattle.program_meaning.specs.Instructions as instr
use Rattle.program_meaning.specs.Registers.{after, value_at}
use Rattle.query_tree.specs.View.{view}
use Rattle.plan_lower.specs.Operands.{of_operand}
use Rattle.plan_lower.specs.Emitting.{Applies}
use Rattle.plan_lower.proofs.Showing.{put_shows}
use Rattle.plan_lower.proofs.operators.put_one.Goals as goal

pub returns-in-Neg : goal.returns-in-Neg
returns-in-Neg c =
    let old = c.args.builder.now in
    let new = c.put.new.self in
    let m = c.args.mask in
    let a = c.args.of in
    subst (λ e. IfOk c.put.result (λ r. Applies old new (of_operand (view e)) m a r)) (sym c.in-Neg.is)
    (put_shows c.put.result old new (instr.neg m a) m (λ l. negative (value_at (after l old) a)) refl (λ l. refl) c.put.ensures.ok c.put.ensures.number)

pub returns-in-Not : goal.returns-in-Not
returns-in-Not c =
    let old = c.args.builder.now in
    let new = c.put-in-Not.new.self in
    let m = c.args.mask in
    let a = c.args.of in
    subst (λ e. IfOk c.put-in-Not.result (λ r. Applies old new (of_operand (view e)) m a r)) (sym c.in-Not.is)
    (put_shows c.put-in-Not.result old new (instr.not m a) m (λ l. not_of (value_at (after l old) a)) refl (λ l. refl) c.put-in-Not.ensures.ok c.put-in-Not.ensures.number)

pub returns-in-Is : goal.returns-in-Is
returns-in-Is c =
    let old = c.args.builder.now in
    let new = c.put-in-Is.new.self in
    let m = c.args.mask in
    let a = c.args.of in
    subst (λ e. IfOk c.put-in-Is.result (λ r. Applies old new (of_operand (view e)) m a r)) (sym c.in-Is.is)
    (put_shows c.put-in-Is.result old new (instr.is m c.in-Is.what a) m (λ l. is_of c.in-Is.what (value_at (after l old) a)) refl (λ l. refl) c.put-in-Is.ensures.ok c.put-in-Is.ensures.number)

pub returns-in-Cast : goal.returns-in-Cast
returns-in-Cast c =
    let old = c.args.builder.now in
    let new = c.put-in-Cast.new.self in
    let m = c.args.mask in
    let a = c.args.of in
    subst (λ e. IfOk c.put-in-Cast.result (λ r. Applies old new (of_operand (view e)) m a r)) (sym c.in-Cast.is)
    (put_shows c.put-in-Cast.result old new (instr.cast m c.in-Cast.to a) m (λ l. cast_of c.in-Cast.to (value_at (after l old) a)) refl (λ l. refl) c.put-in-Cast.ensures.ok c.put-in-Cast.ensures.number)

pub returns-in-Trunc : goal.returns-in-Trunc
returns-in-Trunc c =
    let old = c.args.builder.now in
    let new = c.put-in-Trunc.new.self in
    let m = c.args.mask in
    let a = c.args.of in
    subst (λ e. IfOk c.put-in-Trunc.result (λ r. Applies old new (of_operand (view e)) m a r)) (sym c.in-Trunc.is)
    (put_shows c.put-in-Trunc.result old new (instr.trunc m c.in-Trunc.part a) m (λ l. trunc_of c.in-Trunc.part (value_at (after l old) a)) refl (λ l. refl) c.put-in-Trunc.ensures.ok c.put-in-Trunc.ensures.number)

pub returns-in-Extract : goal.returns-in-Extract
returns-in-Extract c =
    let old = c.args.builder.now in
    let new = c.put-in-Extract.new.self in
    let m = c.args.mask in
    let a = c.args.of in
    subst (λ e. IfOk c.put-in-Extract.result (λ r. Applies old new (of_operand (view e)) m a r)) (sym c.in-Extract.is)
    (put_shows c.put-in-Extract.result old new (instr.extract m c.in-Extract.part a) m (λ l. extract_of c.in-Extract.part (value_at (after l old) a)) refl (λ l. refl) c.put-in-Extract.ensures.ok c.put-in-Extract.ensures.number)

pub returns-in_ok-pattern-in-Match : goal.returns-in_ok-pattern-in-Match
returns-in_ok-pattern-in-Match c =
    let old = c.args.builder.now in
    let new = c.put-in-Match.new.self in
    let m = c.args.mask in
    let a = c.args.of in
    let how = c.in-Match.how in
    let pattern = c.in_ok-pattern-in-Match.pattern in
    subst (λ e. IfOk c.put-in-Match.result (λ r. Applies old new (of_operand (view e)) m a r)) (sym c.in-Match.is)
    (subst (λ s. IfOk c.put-in-Match.result (λ r. Applies old new (matching_of how s) m a r)) c.in_ok-pattern-in-Match.ensures
    (put_shows c.put-in-Match.result old new (instr.matching m how a pattern) m (λ l. matching_of how pattern (value_at (after l old) a)) refl (λ l. refl) c.put-in-Match.ensures.ok c.put-in-Match.ensures.number))
