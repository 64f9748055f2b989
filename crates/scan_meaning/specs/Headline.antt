-- What a query owes by the rows of its files' undamaged blocks, where the entries of excluded blocks are sound.
use Rattle.std.specs.Prelude.{◌≡◌, ◌⊎◌, ℕ, true, false, List, [], ◌∷◌, ◌++◌, ⊤, Option, Some}
use Rattle.snel_device.specs.Contents.{Contents}
use Rattle.value_meaning.specs.Val.{Val}
use Rattle.tree_meaning.specs.Tree.{Query}
use Rattle.file_meaning.specs.Files.{Entry, AreEntryRows, AreFileRows}
use Rattle.range_meaning.specs.Excluded.{IsExcluded, IsSoundEntry}
use Rattle.scan_meaning.specs.Wanted.{bounds_by}
use Rattle.scan_meaning.specs.Limits.{is_over}
use Rattle.scan_meaning.specs.Opened.{Opened, AreOpened}
use Rattle.scan_meaning.specs.Answers.{AddsAnswer}

-- the rows of block files: those of their undamaged blocks, in the order of files and blocks
abbrev pub AreRowsOf : List Opened → List Val → Type 0
AreRowsOf [] rows = rows ≡ []
AreRowsOf (o ∷ os) rows =
    (first : List Val) × (others : List Val) × (rows ≡ first ++ others) × AreFileRows o.entries o.bytes first × AreRowsOf os others

-- each block of a file that the WHERE excludes holds no time beyond its entry's
abbrev pub ExcludedAreSoundIn : Query → Opened → List Entry → Type 0
ExcludedAreSoundIn q o [] = ⊤
ExcludedAreSoundIn q o (e ∷ es) =
    (IsExcluded e (bounds_by o.field q.filter) → (rows : List Val) → AreEntryRows e o.bytes rows → IsSoundEntry o.field e rows)
    × ExcludedAreSoundIn q o es

-- the same of all files
abbrev pub ExcludedAreSound : Query → List Opened → Type 0
ExcludedAreSound q [] = ⊤
ExcludedAreSound q (o ∷ os) = ExcludedAreSoundIn q o o.entries × ExcludedAreSound q os

-- this holds of the rows of the named block files, where what is excluded is sound
abbrev pub OfRows : Query → List (List ℕ) → Option Contents → (List Val → Type 0) → Type 0
OfRows q names told P =
    (files : Contents) (os : List Opened) (rows : List Val) → told ≡ Some files → AreOpened files names os
    → AreRowsOf os rows → ExcludedAreSound q os → P rows

-- The bytes that a query writes are JSON lines of an answer that evaluating it one row at a time allows for the rows of its files'
-- undamaged blocks: the whole answer at status 0, and otherwise a prefix of one. At status 7 these rows have more groups than the limit,
-- and at 0 and 9 they haven't.
pub record AnswersFiles (q : Query) (limit : ℕ) (names : List (List ℕ)) (told : Option Contents) (status : ℕ) (old new : Option (List ℕ)) : Type 0 where
  pub answers : OfRows q names told (λ rows. AddsAnswer q rows status old new)
  pub over : status ≡ 7 → OfRows q names told (λ rows. is_over q limit rows ≡ true)
  pub within : (status ≡ 0) ⊎ (status ≡ 9) → OfRows q names told (λ rows. is_over q limit rows ≡ false)
