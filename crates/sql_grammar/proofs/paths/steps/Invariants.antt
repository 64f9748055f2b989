use Rattle.std.proofs.Common.{◌≡◌, ◌-◌, drop, map}
use Rattle.std.specs.Option.{option_map}
use Rattle.query_meaning.specs.Reading.{steps_at}
use Rattle.sql_grammar.specs.PathForms.{begun}
use Rattle.sql_words.specs.Seen.{toks}
use Rattle.query_tree.specs.View.{step_view}
use Rattle.sql_grammar.proofs.Loops.{behind_list}
use Rattle.sql_grammar.proofs.paths.steps.Given as goal

abbrev pub invariant-loop-turn : goal.invariant-loop-turn
invariant-loop-turn l =
    option_map (begun l.fn.first) (steps_at l.room (drop l.at (toks l.looks))) ≡ option_map (behind_list (map step_view l.all)) (steps_at (l.room - l._turn) (drop l.rest (toks l.looks)))
