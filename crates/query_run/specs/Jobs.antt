-- The jobs of accepted texts.
use Rattle.std.specs.Prelude.{ℕ, List}
use Rattle.tree_meaning.specs.Tree.{Query}
use Rattle.program_meaning.specs.Jobs.{Job}
use Rattle.program_meaning.specs.Simulation.{Simulates}
use Rattle.query_run.specs.Queries.{Accepts}

-- the job simulates the query of the text, which is accepted
pub record Compiles (sql : List ℕ) (job : Job) : Type 0 where
  pub q : Query
  pub accepts : Accepts sql q
  pub simulates : Simulates job q
