-- When statuses come, and that a call is done against which nothing stands.
use Rattle.std.specs.Prelude.{◌≡◌, ◌⊎◌, ℕ, true, false, List, ⊤, Option, Some, None}
use Rattle.snel_device.specs.Causes.{Rose}
use Rattle.snel_device.specs.Contents.{Contents}
use Rattle.tree_meaning.specs.Tree.{Query}
use Rattle.scan_meaning.specs.Blocks.{Block}
use Rattle.scan_meaning.specs.Batches.{rows_of, first_bad}
use Rattle.scan_meaning.specs.Limits.{is_over}
use Rattle.scan_meaning.specs.Verdicts.{scan, Finds}
use Rattle.scan_meaning.specs.Checks.{sound, ChecksAs}
use Rattle.query_run.specs.Queries.{Accepts, IsAccepted, IsRefused}
use Rattle.snel_words.specs.declared.ask.Settings.{Settings}
use Rattle.snel_words.specs.Words.{Ask, nothing, query, check, pack, explain, make}
use Rattle.snel_command.specs.Exactly.{Exactly}
use Rattle.snel_command.specs.Packs.{ComesOfPack}
use Rattle.snel_command.specs.Makes.{ComesOfMake}

-- the text of a query that is asked or explained
abbrev pub text_of : Ask → Option (List ℕ)
text_of (query settings sql names) = Some sql
text_of (explain sql) = Some sql
text_of ask = None

-- Status 2 comes exactly where the words aren't accepted, and 3 exactly where the text is refused. A query over block files of which no block
-- is bad that isn't excluded and that have no more groups than allowed, a check of sound files and the listing of an accepted text are done where no count of faults rose, unless memory
-- wants. One with more groups ends with status 7.
pub record Comes (ask : Ask) (told : Option Contents) (status reads_before reads_now writes_before writes_now : ℕ) : Type 0 where
  pub words : Exactly 2 status (ask ≡ nothing)
  pub text : (sql : List ℕ) → text_of ask ≡ Some sql → Exactly 3 status (IsRefused sql)
  pub answered :
      (settings : Settings) (sql : List ℕ) (names : List (List ℕ)) (q : Query) (bs : List Block) (n : ℕ)
      → ask ≡ query settings sql names → Accepts sql q → Finds q names told (scan bs n) → first_bad bs ≡ None
      → is_over q settings.groups (rows_of bs) ≡ false
      → ¬ Rose reads_before reads_now → ¬ Rose writes_before writes_now → (status ≡ 0) ⊎ (status ≡ 10)
  pub over :
      (settings : Settings) (sql : List ℕ) (names : List (List ℕ)) (q : Query) (bs : List Block) (n : ℕ)
      → ask ≡ query settings sql names → Accepts sql q → Finds q names told (scan bs n) → first_bad bs ≡ None
      → is_over q settings.groups (rows_of bs) ≡ true
      → ¬ Rose reads_before reads_now → (status ≡ 7) ⊎ (status ≡ 10)
  pub checked :
      (names : List (List ℕ)) (files : Contents)
      → ask ≡ check names → told ≡ Some files → ChecksAs names files sound
      → ¬ Rose reads_before reads_now → ¬ Rose writes_before writes_now → (status ≡ 0) ⊎ (status ≡ 10)
  pub listed : (sql : List ℕ) → ask ≡ explain sql → IsAccepted sql → ¬ Rose writes_before writes_now → (status ≡ 0) ⊎ (status ≡ 10)

-- when the statuses of commands that make a file come
abbrev pub ComesPacked : Ask → Option Contents → Option (List ℕ) → ℕ → ℕ → ℕ → ℕ → ℕ → ℕ → ℕ → Type 0
ComesPacked (pack p name) told left status a b c d e f = ComesOfPack p name told left status a b c d e f
ComesPacked (make start count name) told left status a b c d e f = ComesOfMake name told status a b e f
ComesPacked ask told left status a b c d e f = ⊤
