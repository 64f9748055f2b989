-- What a query over files owes.
use Rattle.std.specs.Prelude.{ℕ, List, Option}
use Rattle.snel_device.specs.Contents.{Contents}
use Rattle.tree_meaning.specs.Tree.{Query}
use Rattle.scan_meaning.specs.Headline.{AnswersFiles}
use Rattle.query_run.specs.Queries.{Accepts}

-- The bytes that a query over files writes are JSON lines of an answer that evaluating the accepted query one row at a time allows for
-- the rows of its files' undamaged blocks: the whole answer at status 0, and otherwise a prefix of one; and
-- whether there are more groups than the limit is told by status 7.
pub record Headline (sql : List ℕ) (limit : ℕ) (names : List (List ℕ)) (told : Option Contents) (status : ℕ) (old new : Option (List ℕ)) : Type 0 where
  pub of_query : (q : Query) → Accepts sql q → AnswersFiles q limit names told status old new
