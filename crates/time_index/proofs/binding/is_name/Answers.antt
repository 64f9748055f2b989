use Rattle.std.proofs.Common.{ℕ, List, sym, ap, ◌∙◌}
use Rattle.std.specs.Str.{bytes_eq}
use Rattle.time_index.proofs.Steps.{one_name, no_name, no_step}
use Rattle.time_index.proofs.binding.is_name.Goals as goal

pub returns-then-len-eq1 : goal.returns-then-len-eq1
returns-then-len-eq1 c =
    c.eq.ensures
    ∙ ap (λ (s : List ℕ). bytes_eq s c.args.field.now) c.as_str.ensures
    ∙ one_name c.args.field.now c.in-Some-Name.name c.args.steps.now (rw c.in-Some-Name.field-0-is at c.in-Some-Name.ensures) (sym c.len.ensures ∙ c.if-len-eq1.true)

pub returns-in-Some-At : goal.returns-in-Some-At
returns-in-Some-At c = no_name c.args.field.now c.in-Some-At.field-0-0 c.args.steps.now (rw c.in-Some-At.field-0-is at c.in-Some-At.ensures)

pub returns-in-None : goal.returns-in-None
returns-in-None c = no_step c.args.field.now c.args.steps.now c.in-None.ensures
