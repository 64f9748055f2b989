use Rattle.std.proofs.Common.{◌+◌, map, drop, sym, ◌∙◌, ap}
use Rattle.snel_values.specs.View.{view}
use Rattle.query_tree.specs.View.{step_view}
use Rattle.eval_meaning.specs.Paths.{path_of}
use Rattle.eval_row.proofs.Walking.{path_of_missing, path_goes_on}
use Rattle.eval_row.proofs.paths.value_at.Goals as goal

pub returns-in-None : goal.returns-in-None
returns-in-None c =
    let steps = c.args.steps.now in
    let rest = map step_view (drop (c.loop-i.i + 1) steps) in
    sym (path_of_missing rest) ∙ ap (λ v. path_of rest v) c.in-None.ensures
    ∙ sym (path_goes_on step_view steps c.loop-i.i c.in-Some.step.now (view c.loop-i.at.now) (sym c.in-Some.ensures)) ∙ c.loop-i.invariant

pub loop-i-preserved : goal.loop-i-preserved
loop-i-preserved c =
    let steps = c.args.steps.now in
    let rest = map step_view (drop (c.loop-i.i + 1) steps) in
    ap (λ v. path_of rest v) c.in-Some-step_to.ensures
    ∙ sym (path_goes_on step_view steps c.loop-i.i c.in-Some.step.now (view c.loop-i.at.now) (sym c.in-Some.ensures)) ∙ c.loop-i.invariant
