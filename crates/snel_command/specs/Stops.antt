-- What a query has written that a bad block, too many groups, a failed read or a failed put ended.
use Rattle.std.specs.Prelude.{◌≡◌, ◌≤◌, ℕ, false, IsTrue, List, ⊤, Option, Some}
use Rattle.std.specs.Io.KnownBytes.{Keeps}
use Rattle.std.specs.Option.{ForSome}
use Rattle.snel_device.specs.Contents.{Contents}
use Rattle.tree_meaning.specs.Tree.{Query as QueryTree}
use Rattle.scan_meaning.specs.Blocks.{Block}
use Rattle.scan_meaning.specs.Batches.{is_plain}
use Rattle.scan_meaning.specs.Verdicts.{scan, Finds}
use Rattle.scan_meaning.specs.Answers.{StopsAt, StopsReading, StopsPutting}
use Rattle.scan_meaning.specs.Causes.{index_costs}
use Rattle.query_run.specs.Queries.{Accepts}
use Rattle.query_run.specs.Faults.{OfScan}
use Rattle.snel_words.specs.Words.{Ask, query, check, pack, make}

-- A plain query that ended so has written the lines of whole batches: at a bad block those of all batches before its own, at a failed read
-- of at least as many as the count of bytes that were read tells, and at a failed put some lines of a batch more. One that sorts or groups
-- has written nothing where a bad block, too many groups or a failed read ended it.
pub record StopsScan (sql : List ℕ) (names : List (List ℕ)) (told : Option Contents) (status before now : ℕ) (old new : Option (List ℕ)) : Type 0 where
  pub bad : (q : QueryTree) → status ≡ 6 → Accepts sql q → IsTrue (is_plain q) → OfScan q names told (λ bs. (b : Block) × StopsAt q bs b old new)
  pub unread : (q : QueryTree) → status ≡ 8 → Accepts sql q → ForSome told (λ files. (bs : List Block) (n : ℕ)
      → Finds q names (Some files) (scan bs n) → StopsReading q bs (index_costs files names) before now old new)
  pub cut : (q : QueryTree) → status ≡ 9 → Accepts sql q → IsTrue (is_plain q) → OfScan q names told (λ bs. StopsPutting q bs old new)
  pub unwritten : (q : QueryTree) → 6 ≤ status → status ≤ 8 → Accepts sql q → is_plain q ≡ false → Keeps old new

abbrev pub Stops : Ask → Option Contents → ℕ → ℕ → ℕ → Option (List ℕ) → Option (List ℕ) → Type 0
Stops (query settings sql names) told status before now old new = StopsScan sql names told status before now old new
Stops ask told status before now old new = ⊤

-- Refused words and texts, and a query's files that can't be opened, leave the output as it was. A check writes the lines of the files before. Packing ends
-- with none of these, and making a log with the last alone, behind its line.
abbrev pub StaysQuiet : Ask → ℕ → Option (List ℕ) → Option (List ℕ) → Type 0
StaysQuiet (check names) status old new = ⊤
StaysQuiet (pack p name) status old new = ⊤
StaysQuiet (make start count name) status old new = ⊤
StaysQuiet ask status old new = 2 ≤ status → status ≤ 5 → Keeps old new
