-- Checking files: the first file that is absent, no block file or has a bad block; and the line of each file before it.
use Rattle.std.specs.Prelude.{◌≡◌, ℕ, zero, suc, List, [], ◌∷◌, ◌++◌, length, codes, sum_by, take, Option, Some, None}
use Rattle.std.specs.Fmt.{decimal}
use Rattle.std.specs.Io.KnownBytes.{Appends}
use Rattle.snel_device.specs.Contents.{Contents}
use Rattle.file_meaning.specs.Files.{Entry}
use Rattle.scan_meaning.specs.Blocks.{Place, Block}
use Rattle.scan_meaning.specs.Batches.{first_bad}
use Rattle.scan_meaning.specs.Opened.{Named, absent, no_file, opened, AreNamed, blocks_of}
use Rattle.scan_meaning.specs.Verdicts.{IsAmong}
use Rattle.scan_meaning.specs.Answers.{IsPrefix}

-- what checking names gives rise to: all files are sound, or this stands against the file with this number
pub data Checked : Type 0 where
  sound : Checked
  absent_file : ℕ → Checked
  other_file : ℕ → Checked
  bad_block : ℕ → Place → Checked

-- the verdict on the first file, or on the others where its blocks are good
abbrev pub or_bad : ℕ → Option Block → Checked → Checked
or_bad i None others = others
or_bad i (Some b) others = bad_block i b.place

-- where the first file has this number
abbrev pub checked_from : ℕ → List Named → Checked
checked_from i [] = sound
checked_from i (absent ∷ fs) = absent_file i
checked_from i (no_file ∷ fs) = other_file i
checked_from i (opened o ∷ fs) = or_bad i (first_bad (blocks_of i o)) (checked_from (suc i) fs)

-- where files tell, the names and the files give rise to this
pub record ChecksAs (names : List (List ℕ)) (files : Contents) (c : Checked) : Type 0 where
  pub files_are : List Named
  pub are : AreNamed files names files_are
  pub is : c ≡ checked_from 0 files_are

-- the line of a sound file: its name, and how many blocks and rows it has
abbrev pub check_line : List ℕ → List Entry → List ℕ
check_line name entries =
    name ++ (codes ": blocks " ++ (decimal (length entries) ++ (codes ", rows " ++ (decimal (sum_by (λ e. e.rows) entries) ++ codes "\n"))))

-- the lines of block files, in order
abbrev pub check_lines : List (List ℕ) → List Named → List ℕ
check_lines (n ∷ ns) (opened o ∷ fs) = check_line n o.entries ++ check_lines ns fs
check_lines names fs = []

-- how many files stand before the one that is refused
abbrev pub before_refused : List (List ℕ) → Checked → ℕ
before_refused names sound = length names
before_refused names (absent_file k) = k
before_refused names (other_file k) = k
before_refused names (bad_block k p) = k

-- The statuses that belong to it, in the order of refusals. 8 and 9 have causes of their own, and 10 is free.
abbrev pub check_statuses : Checked → List ℕ
check_statuses sound = 8 ∷ 9 ∷ 0 ∷ 10 ∷ []
check_statuses (absent_file zero) = 4 ∷ 10 ∷ []
check_statuses (absent_file (suc k)) = 8 ∷ 9 ∷ 4 ∷ 10 ∷ []
check_statuses (other_file k) = 8 ∷ 9 ∷ 5 ∷ 10 ∷ []
check_statuses (bad_block k p) = 8 ∷ 9 ∷ 6 ∷ 10 ∷ []

-- Checking these names ended with this status, and with this in the sink: the lines of the sound files before the refused one, all of
-- them at a status but 8, 9 and 10, and at these a prefix.
pub record EndsCheck (names : List (List ℕ)) (files : Contents) (status : ℕ) (old new : Option (List ℕ)) : Type 0 where
  pub files_are : List Named
  pub are : AreNamed files names files_are
  pub allowed : IsAmong status (check_statuses (checked_from 0 files_are))
  pub added : List ℕ
  pub appends : Appends old new added
  pub front : IsPrefix added (check_lines names (take (before_refused names (checked_from 0 files_are)) files_are))
  pub whole : IsAmong status (0 ∷ 4 ∷ 5 ∷ 6 ∷ []) → added ≡ check_lines names (take (before_refused names (checked_from 0 files_are)) files_are)
