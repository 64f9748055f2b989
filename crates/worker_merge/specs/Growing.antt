-- Sinks that grow by rows in some order.
use Rattle.std.specs.Prelude.{List}
use Rattle.std.specs.List.Sorted.{IsPermutation}
use Rattle.value_meaning.specs.Val.{Val}
use Rattle.program_meaning.specs.Jobs.{Job}

-- the second sink is the first, grown by what the job makes of the rows, in some order
pub record GrewSomehow {A : Type 0} (grew : A → A → Job → List Val → Type 0) (old new : A) (job : Job) (rows : List Val) : Type 0 where
  pub order : List Val
  pub permutes : IsPermutation rows order
  pub grew_by : grew old new job order
