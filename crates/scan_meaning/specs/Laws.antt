-- Laws of blocks, verdicts and batches.
use Rattle.std.specs.Prelude.{◌≡◌, ◌↔◌, ℕ, true, false, List, length, None, Option, Some}
use Rattle.snel_device.specs.Contents.{Contents}
use Rattle.value_meaning.specs.Val.{Val}
use Rattle.block_meaning.specs.Tables.{Table}
use Rattle.block_meaning.specs.Blocks.{IsBlock, IsDamaged}
use Rattle.file_meaning.specs.Reading.{AreBytes}
use Rattle.tree_meaning.specs.Tree.{Query}
use Rattle.answer_meaning.specs.Made.{Output}
use Rattle.range_meaning.specs.Excluded.{IsExcluded, IsSoundEntry}
use Rattle.file_meaning.specs.Files.{Entry}
use Rattle.scan_meaning.specs.Blocks.{Block, stored_rows, is_sound}
use Rattle.scan_meaning.specs.Wanted.{bounds_by, is_wanted}
use Rattle.scan_meaning.specs.Batches.{first_bad, Counts, IsFirstBad, front}
use Rattle.scan_meaning.specs.Verdicts.{Verdict, Finds}
use Rattle.scan_meaning.specs.Answers.{AreAnswer, EndsAs}
use Rattle.scan_meaning.specs.Headline.{AnswersFiles}

-- The rows of a block are those of which its bytes are a block of as many rows as its entry says, and it has none exactly where it is damaged.
pub record BlocksAreExact : Type 0 where
  pub rows : (b : Block) (rows : List Val)
      → (stored_rows b ≡ Some rows) ↔ ((table : Table) × IsBlock table rows b.bytes × (length rows ≡ b.place.entry.rows))
  pub damaged : (b : Block) → (stored_rows b ≡ None) ↔ IsDamaged b.place.entry.rows b.bytes

-- The test of a block's range is the soundness of its entry.
abbrev pub RangesAreExact : Type 0
RangesAreExact = (field : List ℕ) (entry : Entry) (rows : List Val) → (is_sound field entry rows ≡ true) ↔ IsSoundEntry field entry rows

-- A block isn't wanted exactly where the bounds of the WHERE exclude it.
abbrev pub UnwantedAreExcluded : Type 0
UnwantedAreExcluded = (q : Query) (field : List ℕ) (entry : Entry) → (is_wanted q field entry ≡ false) ↔ IsExcluded entry (bounds_by field q.filter)

-- A query, names and files give rise to at most one verdict.
abbrev pub OneVerdict : Type 0
OneVerdict =
    (q : Query) (names : List (List ℕ)) (told : Option Contents) (v w : Verdict)
    → Finds q names told v → Finds q names told w → v ≡ w

-- Files of bytes and names give rise to some verdict.
abbrev pub SomeVerdict : Type 0
SomeVerdict =
    (q : Query) (names : List (List ℕ)) (files : Contents)
    → ((n b : List ℕ) → files n ≡ Some b → AreBytes b) → (v : Verdict) × Finds q names (Some files) v

-- The blocks of the batches that count are determined, and some number of batches counts.
abbrev pub OneCount : Type 0
OneCount = (q : Query) (bs : List Block) (m n : ℕ) → Counts q bs m → Counts q bs n → front m bs ≡ front n bs

abbrev pub SomeCount : Type 0
SomeCount = (q : Query) (bs : List Block) → (count : ℕ) × Counts q bs count

-- The first bad block in the batches that count is the first of all.
abbrev pub FirstBadIsFirst : Type 0
FirstBadIsFirst = (q : Query) (bs : List Block) (b : Block) → IsFirstBad q bs b → first_bad bs ≡ Some b

-- Each query has an answer for each list of rows.
abbrev pub SomeAnswer : Type 0
SomeAnswer = (q : Query) (rows : List Val) → (outputs : List Output) × AreAnswer q rows outputs

-- A query that ended as each verdict allows that names and files give rise to has written lines of an answer for the rows of its files.
abbrev pub EndedIsAnswered : Type 0
EndedIsAnswered =
    (q : Query) (limit : ℕ) (names : List (List ℕ)) (told : Option Contents) (status : ℕ) (old new : Option (List ℕ))
    → ((v : Verdict) → Finds q names told v → EndsAs q limit v status old new)
    → AnswersFiles q limit names told status old new
