use Rattle.std.proofs.Common.{◌≡◌, refl, sym, subst, IfOk, [], ◌∷◌, length}
use Rattle.tree_meaning.specs.declared.Func.TheVariants as func
use Rattle.tree_meaning.specs.WellFormed.{TakesArguments}
use Rattle.eval_meaning.specs.Evaluation.{call_of}
use Rattle.program_meaning.specs.Instructions as instr
use Rattle.program_meaning.specs.Registers.{after, value_at}
use Rattle.plan_lower.specs.Emitting.{AppliesAll}
use Rattle.plan_lower.proofs.Items.{is_one, are_two}
use Rattle.plan_lower.proofs.Showing.{put_shows}
use Rattle.plan_lower.proofs.functions.put_call.Goals as goal

pub returns-in-NullIf : goal.returns-in-NullIf
returns-in-NullIf c =
    let old = c.args.builder.now in
    let new = c.put_null_if.new.builder in
    let m = c.args.mask in
    let args = c.args.args.now in
    let a = c.register_at-a.result in
    let b = c.register_at.result in
    let count : length args ≡ 2 = subst (λ f. TakesArguments f (length args)) c.in-NullIf.is c.requires.count in
    subst (λ f. IfOk c.put_null_if.result (λ r. AppliesAll old new (call_of f) m args r)) (sym c.in-NullIf.is)
    (subst (λ rs. IfOk c.put_null_if.result (λ r. AppliesAll old new (call_of func.NullIf) m rs r)) (sym (are_two args a b count c.register_at-a.ensures c.register_at.ensures))
    c.put_null_if.ensures)

pub returns-in-CharLength : goal.returns-in-CharLength
returns-in-CharLength c =
    let old = c.args.builder.now in
    let new = c.put.new.self in
    let m = c.args.mask in
    let f = c.args.name in
    let args = c.args.args.now in
    let a = c.register_at-of.result in
    let count : length args ≡ 1 = subst (λ f. TakesArguments f (length args)) c.in-CharLength.is c.requires.count in
    subst (λ rs. IfOk c.put.result (λ r. AppliesAll old new (call_of f) m rs r)) (sym (is_one args a count c.register_at-of.ensures))
    (put_shows c.put.result old new (instr.length m f a) m (λ l. call_of f (value_at (after l old) a ∷ [])) refl (λ l. refl) c.put.ensures.ok c.put.ensures.number)

pub returns-in-UnixEpoch : goal.returns-in-UnixEpoch
returns-in-UnixEpoch c =
    let old = c.args.builder.now in
    let new = c.put-in-UnixEpoch.new.self in
    let m = c.args.mask in
    let f = c.args.name in
    let args = c.args.args.now in
    let a = c.register_at-of-in-UnixEpoch.result in
    let count : length args ≡ 1 = subst (λ f. TakesArguments f (length args)) c.in-UnixEpoch.is c.requires.count in
    subst (λ rs. IfOk c.put-in-UnixEpoch.result (λ r. AppliesAll old new (call_of f) m rs r)) (sym (is_one args a count c.register_at-of-in-UnixEpoch.ensures))
    (put_shows c.put-in-UnixEpoch.result old new (instr.unix m f a) m (λ l. call_of f (value_at (after l old) a ∷ [])) refl (λ l. refl) c.put-in-UnixEpoch.ensures.ok c.put-in-UnixEpoch.ensures.number)

pub returns-in-UnixMicro : goal.returns-in-UnixMicro
returns-in-UnixMicro c =
    let old = c.args.builder.now in
    let new = c.put-in-UnixMicro.new.self in
    let m = c.args.mask in
    let f = c.args.name in
    let args = c.args.args.now in
    let a = c.register_at-of-in-UnixMicro.result in
    let count : length args ≡ 1 = subst (λ f. TakesArguments f (length args)) c.in-UnixMicro.is c.requires.count in
    subst (λ rs. IfOk c.put-in-UnixMicro.result (λ r. AppliesAll old new (call_of f) m rs r)) (sym (is_one args a count c.register_at-of-in-UnixMicro.ensures))
    (put_shows c.put-in-UnixMicro.result old new (instr.unix m f a) m (λ l. call_of f (value_at (after l old) a ∷ [])) refl (λ l. refl) c.put-in-UnixMicro.ensures.ok c.put-in-UnixMicro.ensures.number)
