use Rattle.std.proofs.Common.{◌≡◌, drop, map, ◌++◌, ◌∷◌, [], arith, List, refl, ap, Some}
use Rattle.snel_values.specs.declared.steps.Step.{Step as StepCode}
use Rattle.query_meaning.specs.Reading.{step_at}
use Rattle.sql_words.specs.Seen.{toks}
use Rattle.query_tree.specs.View.{step_view}
use Rattle.sql_grammar.proofs.Loops.{steps_go_on}
use Rattle.sql_grammar.proofs.paths.steps.Goals as goal

map_push : (xs : List StepCode) (s : StepCode) → map step_view (xs ++ s ∷ []) ≡ map step_view xs ++ step_view s ∷ []
map_push [] s = refl
map_push (x ∷ xs) s = ap (λ (z : List _). step_view x ∷ z) (map_push xs s)

pub loop-turn-preserved : goal.loop-turn-preserved
loop-turn-preserved c =
    let ts = toks c.args.looks.now in
    let e : step_at (drop c.loop-turn.rest ts) ≡ Some (Some (step_view c.in-Some.step, drop c.in-Some.behind ts)) = rw c.in-Some.is at c.in_ok-step.ensures in
    rw (c.in_ok-push-2.ensures.ok, map_push c.loop-turn.all c.in-Some.step) (steps_go_on c.args.room c.loop-turn._turn (omega arith) _ (map step_view c.loop-turn.all) (drop c.loop-turn.rest ts) c.loop-turn.invariant (step_view c.in-Some.step) (drop c.in-Some.behind ts) e)
