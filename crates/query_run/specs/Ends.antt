-- How a query over files may end, and how many bytes it may read.
use Rattle.std.specs.Prelude.{◌≡◌, ◌≤◌, ℕ, List, [], ◌∷◌, Option}
use Rattle.std.specs.Io.KnownBytes.{Keeps}
use Rattle.snel_device.specs.Contents.{Contents}
use Rattle.tree_meaning.specs.Tree.{Query}
use Rattle.scan_meaning.specs.Verdicts.{Verdict, Finds, IsAmong}
use Rattle.scan_meaning.specs.Answers.{EndsAs}
use Rattle.scan_meaning.specs.Causes.{StaysWithin}
use Rattle.query_run.specs.Queries.{Accepts, IsRefused}

-- A text that isn't answered ends with status 3 or want of memory, and nothing is written. An accepted one ends as each verdict allows that the
-- names and the files give rise to; there is at most one, and where files hold bytes there is one.
pub record Ends (sql : List ℕ) (limit : ℕ) (names : List (List ℕ)) (told : Option Contents) (status : ℕ) (old new : Option (List ℕ)) : Type 0 where
  pub refused : IsRefused sql → IsAmong status (3 ∷ 10 ∷ [])
  pub unwritten : IsRefused sql → Keeps old new
  pub accepted : (q : Query) (v : Verdict) → Accepts sql q → Finds q names told v → EndsAs q limit v status old new

-- A count of bytes that were read never falls. It stands still where the text isn't answered, and rises by at most the cost of the verdict
-- where files tell.
pub record Reads (sql : List ℕ) (names : List (List ℕ)) (told : Option Contents) (before now : ℕ) : Type 0 where
  pub later : before ≤ now
  pub refused : IsRefused sql → now ≡ before
  pub accepted : (q : Query) → Accepts sql q → StaysWithin q names told before now
