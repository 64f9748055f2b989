-- What each outcome of a call says of what is asked and of the files: one line for each cause. What a call gives rise to over files that
-- tell is one verdict.
use Rattle.std.specs.Prelude.{◌≡◌, ℕ, Bool, List, length, ⊤, Option, Some, Result, Ok, Err}
use Rattle.std.specs.Option.{ForSome}
use Rattle.std.specs.Io.KnownBytes.{Appends}
use Rattle.snel_device.specs.Causes.{Rose}
use Rattle.snel_device.specs.Contents.{Contents}
use Rattle.tree_meaning.specs.Tree.{Query as QueryTree}
use Rattle.scan_meaning.specs.Blocks.{Block}
use Rattle.scan_meaning.specs.Batches.{front, Counts}
use Rattle.scan_meaning.specs.Verdicts.{scan, Finds}
use Rattle.query_run.specs.declared.query_fault.QueryFault.TheVariants.{OutOfMemory}
use Rattle.query_run.specs.Queries.{Accepts, IsAccepted}
use Rattle.query_run.specs.Faults as of_query
use Rattle.query_run.specs.Checking as of_check
use Rattle.query_run.specs.Explained as of_explain
use Rattle.snel_words.specs.Words.{Ask, nothing, query, check, pack, explain, make}
use Rattle.snel_command.specs.Outcomes.{status_after, is_counted, done_of}
use Rattle.snel_command.specs.Packs.{SaysOfPack, IsAllAccepted}
use Rattle.snel_command.specs.Makes.{SaysOfMaking, SaysOfLogQuery}
use Rattle.snel_command.specs.Lines.{limit_of, names_of, line_of}
use Rattle.snel_command.specs.declared.outcome.Refusal.{Refusal}
use Rattle.snel_command.specs.declared.outcome.Refusal.TheVariants.{Words, Query, Pack}
use Rattle.snel_command.specs.declared.outcome.Done.{Done}
use Rattle.snel_command.specs.declared.outcome.Done.TheVariants.{All}

-- A query that was answered tells its counts if they are asked: where files tell, those of the blocks of the batches that count and of the
-- excluded ones.
pub record TellsCounts (stats : Bool) (sql : List ℕ) (names : List (List ℕ)) (told : Option Contents) (done : Done) : Type 0 where
  pub asked : is_counted done ≡ stats
  pub right : (q : QueryTree) → Accepts sql q → ForSome told (λ files. (bs : List Block) (n count : ℕ)
      → Finds q names (Some files) (scan bs n) → Counts q bs count → done ≡ done_of stats (length (front count bs)) n)

-- what an outcome says of what is asked, of the files and of the input's bytes
abbrev pub Says : Ask → Option Contents → Option (List ℕ) → Result Done Refusal → Type 0
Says nothing told left (Err Words) = ⊤
Says nothing told left (Err (Query OutOfMemory)) = ⊤
Says (query settings sql names) told left (Err (Query f)) = of_query.HasItsCause {A = Done} sql settings.groups names told (Err f)
Says (query settings sql names) told left (Ok done) = of_query.HasItsCause {A = Done} sql settings.groups names told (Ok done) × TellsCounts settings.stats sql names told done
Says (check names) told left (Err (Query f)) = of_check.HasCheckCause {A = Done} names told (Err f)
Says (check names) told left (Ok All) = of_check.HasCheckCause {A = Done} names told (Ok All)
Says (explain sql) told left (Err (Query f)) = of_explain.SaysOfExplained sql f
Says (explain sql) told left (Ok All) = IsAccepted sql
Says (pack p name) told left (Err (Query OutOfMemory)) = ⊤
Says (pack p name) told left (Err (Pack f)) = SaysOfPack p name told left f
Says (pack p name) told left (Ok All) = IsAllAccepted p left
Says (make start count name) told left (Err (Query f)) = SaysOfLogQuery told f
Says (make start count name) told left (Err (Pack f)) = SaysOfMaking name told f
Says (make start count name) told left (Ok All) = ⊤
Says ask told left outcome = ⊥

-- A call came out so and ended with its status, and `err` took its line unless its count of faults rose.
pub record CameOut (ask : Ask) (told : Option Contents) (left : Option (List ℕ)) (status before now : ℕ) (old new : Option (List ℕ)) : Type 0 where
  pub outcome : Result Done Refusal
  pub is : status ≡ status_after outcome
  pub says : Says ask told left outcome
  pub line : ¬ Rose before now → Appends old new (line_of (limit_of ask) (names_of ask) outcome)
