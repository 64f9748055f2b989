-- Verdicts: the first file that can't be read, or the blocks that are to be scanned.
use Rattle.std.specs.Prelude.{◌≡◌, ℕ, zero, suc, ◌==◌, IsTrue, List, [], ◌∷◌, filter, not, count_by, Option, Some, None, unwrap_or}
use Rattle.std.specs.List.{list_any}
use Rattle.snel_device.specs.Contents.{Contents}
use Rattle.tree_meaning.specs.Tree.{Query}
use Rattle.scan_meaning.specs.Blocks.{Block}
use Rattle.scan_meaning.specs.Wanted.{is_wanted}
use Rattle.scan_meaning.specs.Opened.{Named, absent, no_file, opened, AreNamed, blocks_from}

-- what an accepted query, names and files give rise to: the first file that is absent or no block file, or the blocks to be read and the
-- count of the excluded. Untold where files tell nothing.
pub data Verdict : Type 0 where
  no_such_file : ℕ → Verdict
  no_block_file : ℕ → Verdict
  scan : List Block → ℕ → Verdict
  untold : Verdict

-- the first file that can't be read, where the first has this number
abbrev pub refusal : ℕ → List Named → Option Verdict
refusal i [] = None
refusal i (absent ∷ fs) = Some (no_such_file i)
refusal i (no_file ∷ fs) = Some (no_block_file i)
refusal i (opened o ∷ fs) = refusal (suc i) fs

-- the blocks that the WHERE doesn't exclude, and how many it does
abbrev pub wanted : Query → List Block → List Block
wanted q bs = filter (λ b. is_wanted q b.field b.place.entry) bs

abbrev pub skipped : Query → List Block → ℕ
skipped q bs = count_by (λ b. not (is_wanted q b.field b.place.entry)) bs

abbrev pub verdict_of : Query → List Named → Verdict
verdict_of q fs = unwrap_or (refusal 0 fs) (scan (wanted q (blocks_from 0 fs)) (skipped q (blocks_from 0 fs)))

pub record FindsInFiles (q : Query) (names : List (List ℕ)) (files : Contents) (v : Verdict) : Type 0 where
  pub files_are : List Named
  pub are : AreNamed files names files_are
  pub is : v ≡ verdict_of q files_are

abbrev pub Finds : Query → List (List ℕ) → Option Contents → Verdict → Type 0
Finds q names None v = v ≡ untold
Finds q names (Some files) v = FindsInFiles q names files v

-- The statuses that belong to a verdict, in the order of refusals. 8 and 9 have causes of their own, and 10 is free.
abbrev pub statuses : Verdict → List ℕ
statuses (no_such_file zero) = 4 ∷ 10 ∷ []
statuses (no_such_file (suc k)) = 8 ∷ 4 ∷ 10 ∷ []
statuses (no_block_file k) = 8 ∷ 5 ∷ 10 ∷ []
statuses (scan bs n) = 8 ∷ 6 ∷ 7 ∷ 9 ∷ 0 ∷ 10 ∷ []
statuses untold = 4 ∷ 8 ∷ 5 ∷ 6 ∷ 7 ∷ 9 ∷ 0 ∷ 10 ∷ []

-- the status is one of these
abbrev pub IsAmong : ℕ → List ℕ → Type 0
IsAmong status all = IsTrue (list_any (λ s. s == status) all)
