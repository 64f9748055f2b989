use Rattle.std.proofs.Common.{◌∙◌, ℕ, List, ◌++◌, ap, sym, map, arith}
use Rattle.std.proofs.lemmas.List.{length-map}
use Rattle.query_tree.specs.View.{step_view}
use Rattle.print_meaning.proofs.PrintedLists.{joins_one, joins_all, steps_is, step_text}
use Rattle.sql_print.proofs.Members.{mapped}
use Rattle.sql_print.proofs.paths.put_steps.Goals as goal

pub loop-at-preserved : goal.loop-at-preserved
loop-at-preserved c =
    let found = rw c.in-Some.is at c.get.ensures in
    joins_one step_text c.args.text.now c.loop-at.text c.put_step.new.text c.loop-at.at (map step_view c.args.steps.now) (step_view c.in-Some.step.now) (mapped step_view c.args.steps.now c.loop-at.at c.in-Some.step.now (sym found)) c.in_ok-put_step.ensures c.loop-at.invariant

pub returns : goal.returns
returns c =
    let xs = map step_view c.args.steps.now in
    joins_all step_text c.args.text.now c.loop-at.text c.loop-at.at xs (omega (arith, c.loop-at-test.false, c.len-at-end.ensures, length-map c.args.steps.now step_view)) c.loop-at.invariant
    ∙ ap (λ (z : List ℕ). c.args.text.now ++ z) (sym (steps_is xs))
