-- What reading the indexes of the named files says.
use Rattle.std.specs.Prelude.{◌≡◌, ℕ, List, length, take, map, All, not, slice_get, ⊤, Option, None, Some, Result, Ok, Err}
use Rattle.std.specs.Option.{ForSome}
use Rattle.snel_device.specs.Contents.{Contents}
use Rattle.time_index.specs.Answers.{Knows, IsNoFile}
use Rattle.tree_meaning.specs.Tree.{Query}
use Rattle.scan_meaning.specs.Blocks.{Place}
use Rattle.scan_meaning.specs.Opened.{Opened, absent, no_file, opened, AreOpened, blocks_from}
use Rattle.scan_meaning.specs.Verdicts.{wanted, skipped}
use Rattle.scan_meaning.specs.Causes.{IsFirst}
use Rattle.scan_files.specs.Places.{blocks_at, IsPlaced}
use Rattle.scan_files.specs.declared.fault.FilesFault.{FilesFault}
use Rattle.scan_files.specs.declared.fault.FilesFault.TheVariants.{Absent, NotAFile, ReadFault, OutOfMemory}

-- The first so many files are block files that index these fields, and these are the places of their blocks that aren't excluded.
pub record Surveys (q : Query) (names : List (List ℕ)) (count : ℕ) (files : Contents) (fields : List (List ℕ)) (places : List Place) (left_out : ℕ) : Type 0 where
  pub files_are : List Opened
  pub are : AreOpened files (take count names) files_are
  pub fields_are : fields ≡ map (λ o. o.field) files_are
  pub blocks : blocks_at files names fields places ≡ wanted q (blocks_from 0 (map (λ o. opened o) files_are))
  pub placed : All (λ p. IsPlaced files names p) places
  pub skips : left_out ≡ skipped q (blocks_from 0 (map (λ o. opened o) files_are))

-- the first named file is there
abbrev pub FirstIsThere : Contents → List (List ℕ) → Type 0
FirstIsThere files names = (name : List ℕ) × (slice_get names 0 ≡ Some name) × (files name ≡ None → ⊥)

-- what a fault says of the file of this name, which has this number
abbrev pub SaysOfFile : Option Contents → List ℕ → ℕ → FilesFault → Type 0
SaysOfFile told name n (Absent k) = (k ≡ n) × ForSome told (λ files. files name ≡ None)
SaysOfFile told name n (NotAFile k) = (k ≡ n) × Knows told name IsNoFile
SaysOfFile told name n ReadFault = ForSome told (λ files. files name ≡ None → ⊥)
SaysOfFile told name n OutOfMemory = ⊤

-- what a fault says of the named files
abbrev pub SaysOfFiles : Option Contents → List (List ℕ) → FilesFault → Type 0
SaysOfFiles told names (Absent k) = ForSome told (λ files. IsFirst files names k absent)
SaysOfFiles told names (NotAFile k) = ForSome told (λ files. IsFirst files names k no_file)
SaysOfFiles told names ReadFault = ForSome told (λ files. FirstIsThere files names)
SaysOfFiles told names OutOfMemory = ⊤

-- the answer is that a file is absent
abbrev pub IsAbsent : {A : Type 0} → Result A FilesFault → Type 0
IsAbsent (Err (Absent k)) = ⊤
IsAbsent result = ⊥

-- reading a block answers no other fault
abbrev pub IsReadOrMemory : FilesFault → Type 0
IsReadOrMemory ReadFault = ⊤
IsReadOrMemory OutOfMemory = ⊤
IsReadOrMemory f = ⊥
