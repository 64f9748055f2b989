-- Paths behind their first name.
use Rattle.std.specs.Prelude.{ℕ, List, ◌∷◌, Option, Result, drop}
use Rattle.std.specs.Option.{option_map}
use Rattle.query_meaning.specs.Reading.{Reader, step_at, steps_at}
use Rattle.query_meaning.specs.Tokens.{Toks}
use Rattle.tree_meaning.specs.Tree.{Step, name, Ex, path}
use Rattle.snel_values.specs.declared.steps.Step.{Step as StepCode}
use Rattle.query_tree.specs.View.{step_view}
use Rattle.sql_words.specs.declared.fault.ParseFault.{ParseFault}
use Rattle.sql_words.specs.declared.look.Look.{Look}
use Rattle.sql_words.specs.Gives.{Gives}
use Rattle.sql_words.specs.Seen.{toks}

-- what was answered is the step that begins at the place, if one does
abbrev pub ReadsStepAt : List Look → ℕ → Result (Option (StepCode × ℕ)) ParseFault → Type 0
ReadsStepAt looks at answer = Gives (option_map (λ x. (step_view x.0, drop x.1 (toks looks)))) answer (step_at (drop at (toks looks)))

-- the first name, and the steps behind it
abbrev pub begun : List ℕ → List Step × Toks → List Step × Toks
begun first y = (name first ∷ y.0, y.1)

abbrev pub steps_behind : List ℕ → ℕ → Reader (List Step)
steps_behind first n ts = option_map (begun first) (steps_at n ts)

-- the path of the first name and the steps behind it
abbrev pub path_behind : List ℕ → ℕ → Reader Ex
path_behind first n ts = option_map (λ y. (path 0 (name first ∷ y.0), y.1)) (steps_at n ts)
