-- Rows of lines, so far, and the lines of an input up to a place.
use Rattle.std.specs.Prelude.{◌≡◌, ℕ, suc, ◌+◌, ◌-◌, ◌^◌, ◌≤◌, min, List, [], ◌∷◌, ◌++◌, length, take, Option, Some, None, ⊤}
use Rattle.std.specs.Option.{ForSome}
use Rattle.json_pack.specs.declared.packer.PackedRows.{PackedRows}
use Rattle.json_pack.specs.declared.packer.LinePacker.{LinePacker}
use Rattle.value_meaning.specs.Val.{Val}
use Rattle.snel_device.specs.Contents.{Contents, Extends}
use Rattle.pack_meaning.specs.declared.LineWhy.{LineWhy}
use Rattle.pack_meaning.specs.declared.TheConstants.{MOST_LINE_BYTES, MOST_INPUT_BYTES}
use Rattle.pack_meaning.specs.Splitting.{lines_of, content}
use Rattle.pack_meaning.specs.Lines.{Settings, row, line_of}
use Rattle.pack_meaning.specs.Packing.{Refusal, packed, dropped_from, bytes_in, reason_of, reason_at, refusal_from, refusal}
use Rattle.json_rows.specs.LineViews.{counted}
use Rattle.pack_blocks.specs.Writing.{IsWriting}
use Rattle.json_pack.specs.Packs.{file_for}
use Rattle.json_pack.specs.Ending.{IsFront}

-- The rows are those of these lines, which may be packed, and these bytes of blocks were given away.
pub record HasRead (s : Settings) (before : List (List ℕ)) (given : List ℕ) (r : PackedRows) : Type 0 where
  pub writer : IsWriting s.time_field s.most (packed s before) given r.writer
  pub dropped : r.dropped ≡ min (dropped_from s before) (2 ^ 64 - 1)

-- some lines were read
pub record CanPack (s : Settings) (r : PackedRows) : Type 0 where
  pub before : List (List ℕ)
  pub given : List ℕ
  pub read : HasRead s before given r

-- the lines are one more now, which isn't refused
pub record Goes (s : Settings) (before : List (List ℕ)) (line given : List ℕ) (r : PackedRows) : Type 0 where
  pub read : HasRead s (before ++ line ∷ []) given r
  pub accepted : reason_of s (packed s before) (line_of s (content line)) ≡ None

-- the line comes to the same as the text
abbrev pub IsLike : Settings → List ℕ → List ℕ → Type 0
IsLike s line text = line_of s (content line) ≡ line_of s text

-- one more line was read, whose text this is
abbrev pub AddsLine : Settings → List ℕ → PackedRows → PackedRows → List ℕ → Type 0
AddsLine s text old new closed =
    (before : List (List ℕ)) (line given : List ℕ) → IsLike s line text → HasRead s before given old → Goes s before line (given ++ closed) new

-- one more line was read, which comes to this row
abbrev pub AddsRow : Settings → Val → ℕ → PackedRows → PackedRows → List ℕ → Type 0
AddsRow s v n old new closed =
    (before : List (List ℕ)) (line given : List ℕ) → counted (line_of s (content line)) ≡ row v n → HasRead s before given old → Goes s before line (given ++ closed) new

-- a line that comes to this row is refused for this reason
abbrev pub RefusesRow : Settings → Val → ℕ → PackedRows → LineWhy → Type 0
RefusesRow s v n old why =
    (before : List (List ℕ)) (line given : List ℕ) → counted (line_of s (content line)) ≡ row v n → HasRead s before given old
    → reason_of s (packed s before) (line_of s (content line)) ≡ Some why

-- a line of this text is refused for this reason
abbrev pub RefusesText : Settings → List ℕ → PackedRows → LineWhy → Type 0
RefusesText s text old why =
    (before : List (List ℕ)) (line given : List ℕ) → IsLike s line text → HasRead s before given old
    → reason_of s (packed s before) (line_of s (content line)) ≡ Some why

-- the count of a line's bytes, as far as a line may be long
abbrev pub counted_bytes : ℕ → ℕ
counted_bytes n = min n (suc MOST_LINE_BYTES)

-- one more line was read, whose text this is and which has so many bytes
pub record TakesLine (s : Settings) (text : List ℕ) (n : ℕ) (old new : LinePacker) (closed : List ℕ) : Type 0 where
  pub adds : AddsLine s text old.rows new.rows closed
  pub short : length text ≤ MOST_LINE_BYTES
  pub at : new.at ≡ old.at + counted_bytes n
  pub within : new.at ≤ MOST_INPUT_BYTES
  pub number : new.number ≡ min (old.number + 1) (2 ^ 64 - 1)

-- a line of this text and of so many bytes is refused for this reason
abbrev pub RefusesLine : Settings → List ℕ → ℕ → LinePacker → LineWhy → Type 0
RefusesLine s text n old why =
    (before : List (List ℕ)) (line given : List ℕ) → IsLike s line text → counted_bytes n ≡ counted_bytes (length line) → HasRead s before given old.rows
    → bytes_in before ≡ old.at → reason_at s before line ≡ Some why

-- These lines of the bytes were read, none of which is refused, and the rest follows.
pub record IsUpTo (s : Settings) (bytes rest : List ℕ) (before : List (List ℕ)) (p : LinePacker) : Type 0 where
  pub split : lines_of bytes ≡ before ++ lines_of rest
  pub refusals : refusal s (lines_of bytes) ≡ refusal_from s before (lines_of rest)
  pub sized : bytes_in before ≡ p.at
  pub numbered : p.number ≡ length before
  pub low : p.number ≤ p.at
  pub within : p.at ≤ MOST_INPUT_BYTES

-- the same where an input tells its bytes
abbrev pub IsToldUpTo : Settings → Option (List ℕ) → Option (List ℕ) → List (List ℕ) → LinePacker → Type 0
IsToldUpTo s None rest before p = ⊤
IsToldUpTo s (Some bytes) None before p = ⊥
IsToldUpTo s (Some bytes) (Some rest) before p = IsUpTo s bytes rest before p

-- The lines of an input are packed up to a place, and these bytes of blocks were given away.
pub record IsPacking (s : Settings) (whole rest : Option (List ℕ)) (given : List ℕ) (p : LinePacker) : Type 0 where
  pub before : List (List ℕ)
  pub read : HasRead s before given p.rows
  pub up_to : IsToldUpTo s whole rest before p

-- one more line was packed, and these bytes were given away
abbrev pub GoesOn : Settings → Option (List ℕ) → Option (List ℕ) → LinePacker → LinePacker → List ℕ → Type 0
GoesOn s old_rest new_rest old new closed =
    (whole : Option (List ℕ)) (given : List ℕ) → IsPacking s whole old_rest given old → IsPacking s whole new_rest (given ++ closed) new

-- The next line is refused, and what was given away is a front of the file of the lines before it.
pub record StopsHere (s : Settings) (bytes given : List ℕ) (r : Refusal) : Type 0 where
  pub refused : refusal s (lines_of bytes) ≡ Some r
  pub front : IsFront given (file_for s (take (r.number - 1) (lines_of bytes)))

abbrev pub StopsAt : Settings → Option (List ℕ) → LinePacker → Refusal → Type 0
StopsAt s rest p r = (whole : Option (List ℕ)) (given : List ℕ) → IsPacking s whole rest given p → ForSome whole (λ bytes. StopsHere s bytes given r)

-- The file of this name grew by a front of the file of these lines, and no other file changed.
abbrev pub ExtendsFront : Settings → List (List ℕ) → Option Contents → Option Contents → List ℕ → Type 0
ExtendsFront s lines old new name = (n : ℕ) × Extends old new name (take n (file_for s lines))

-- The lines of an input are packed up to a place, and the blocks that are closed were added to the file of this name.
pub record IsFilling (s : Settings) (whole rest : Option (List ℕ)) (old new : Option Contents) (name : List ℕ) (p : LinePacker) : Type 0 where
  pub given : List ℕ
  pub packing : IsPacking s whole rest given p
  pub added : Extends old new name given
