use Rattle.std.proofs.Common.{◌≡◌, ◌∙◌, ℕ, [], ◌∷◌, ◌++◌, ap}
use Rattle.std.specs.Prelude.{codes, decimal}
use Rattle.tree_meaning.specs.Tree.{Step, name, at}
use Rattle.query_tree.specs.View.{step_view}
use Rattle.print_meaning.specs.Pieces.{in_quotes}
use Rattle.print_meaning.specs.Texts.{steps_text}
use Rattle.sql_print.proofs.StepTexts.{name_text, at_text}
use Rattle.sql_print.proofs.Grown.{by_two, by_three}
use Rattle.sql_print.proofs.paths.put_step.Goals as goal

pub returns-in_ok-put-in-Name : goal.returns-in_ok-put-in-Name
returns-in_ok-put-in-Name c =
    let n = c.in-Name.name in
    let step : ◌≡◌ {A = Step} (step_view c.args.step.now) (name n) = ap step_view c.in-Name.is in
    let whole = name_text n in
    let e : c.put.new.text ++ in_quotes 34 n ≡ c.args.text.now ++ steps_text (name n ∷ []) = by_two c.args.text.now c.put.new.text (codes ".") (in_quotes 34 n) (steps_text (name n ∷ [])) c.in_ok-put-in-Name.ensures whole in
    rw (step, ← e) (rw (← c.as_str.ensures) c.put_name.ensures)

pub returns-in_ok-put_digits-in-At : goal.returns-in_ok-put_digits-in-At
returns-in_ok-put_digits-in-At c =
    let i = c.in-At.at in
    let step : ◌≡◌ {A = Step} (step_view c.args.step.now) (at i) = ap step_view c.in-At.is in
    let second = c.in_ok-put_digits-in-At.ensures ∙ ap (λ (z : ℕ). c.put-in-At.new.text ++ decimal z) c.from.ensures in
    let e = by_three c.args.text.now c.put-in-At.new.text c.put_digits.new.text (codes "[") (decimal i) (codes "]") (steps_text (at i ∷ [])) c.in_ok-put-in-At.ensures second (at_text i) in
    rw (step, ← e) c.put-in-At-2.ensures
