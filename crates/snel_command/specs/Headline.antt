-- What a query owes, of a query command and of the query over a made log.
use Rattle.std.specs.Option.{ForSome}
use Rattle.std.specs.Prelude.{◌≡◌, ℕ, List, Option}
use Rattle.snel_device.specs.Contents.{Contents}
use Rattle.tree_meaning.specs.Tree.{Query}
use Rattle.scan_meaning.specs.Headline.{AnswersFiles}
use Rattle.query_run.specs.Queries.{Accepts}
use Rattle.snel_command.specs.Makes.{PutsLog}
use Rattle.snel_words.specs.declared.ask.Settings.{Settings}
use Rattle.snel_words.specs.Words.{Ask, query, make}

-- Whatever its settings, the bytes that a query command writes are JSON lines of an answer that evaluating the accepted query one row at a
-- time allows for the rows of its files' undamaged blocks: the whole answer at status 0, and otherwise a prefix of one. At status 7 these rows
-- have more groups than the settings allow, and at 0 and 9 they haven't. What a make command writes behind the line of its log is so of the
-- query over the log's rows.
pub record Headline (asked : Ask) (told : Option Contents) (status : ℕ) (old new : Option (List ℕ)) : Type 0 where
  pub answers :
      (settings : Settings) (sql : List ℕ) (names : List (List ℕ)) (q : Query)
      → asked ≡ query settings sql names → Accepts sql q → AnswersFiles q settings.groups names told status old new
  pub made : (start count : ℕ) (name : List ℕ) → asked ≡ make start count name → ForSome told (λ files. PutsLog start count status old new)
