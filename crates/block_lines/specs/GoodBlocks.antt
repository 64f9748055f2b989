-- Whether the bytes of a block are as the file's index says.
use Rattle.std.specs.Prelude.{◌≡◌, ℕ, List, [], ⊤, length}
use Rattle.value_meaning.specs.Val.{Val}
use Rattle.block_meaning.specs.Tables.{Table}
use Rattle.block_meaning.specs.Blocks.{IsBlock, IsDamaged}
use Rattle.file_meaning.specs.Files.{Entry}
use Rattle.range_meaning.specs.Excluded.{IsSoundEntry}
use Rattle.block_lines.specs.declared.fault.ScanFault.{ScanFault}
use Rattle.block_lines.specs.declared.fault.ScanFault.TheVariants.{Damaged, OutOfRange, OutOfMemory}

-- The bytes are a block of these rows, as many as the entry says, and each time of theirs in the indexed field lies from the
-- entry's least to its greatest.
pub record IsGoodBlock (field : List ℕ) (entry : Entry) (bytes : List ℕ) (rows : List Val) : Type 0 where
  pub table : Table
  pub block : IsBlock table rows bytes
  pub count : length rows ≡ entry.rows
  pub sound : IsSoundEntry field entry rows

-- There are such rows.
abbrev pub HasGoodRows : List ℕ → Entry → List ℕ → Type 0
HasGoodRows field entry bytes = (rows : List Val) × IsGoodBlock field entry bytes rows

-- There are no such rows.
abbrev pub IsBadBlock : List ℕ → Entry → List ℕ → Type 0
IsBadBlock field entry bytes = (rows : List Val) → IsGoodBlock field entry bytes rows → ⊥

-- The bytes are a block of as many rows as the entry says, and a time of theirs lies elsewhere.
pub record BreaksRange (field : List ℕ) (entry : Entry) (bytes : List ℕ) : Type 0 where
  pub table : Table
  pub rows : List Val
  pub block : IsBlock table rows bytes
  pub count : length rows ≡ entry.rows
  pub unsound : IsSoundEntry field entry rows → ⊥

-- what a fault says of the block that was to be scanned
abbrev pub SaysOfBlock : List ℕ → Entry → List ℕ → ScanFault → Type 0
SaysOfBlock field entry bytes Damaged = IsDamaged entry.rows bytes
SaysOfBlock field entry bytes OutOfRange = BreaksRange field entry bytes
SaysOfBlock field entry bytes OutOfMemory = ⊤

-- what lines are there after a fault: those of before, or none for want of memory
abbrev pub lines_after : ScanFault → List (List ℕ) → List (List ℕ)
lines_after Damaged lines = lines
lines_after OutOfRange lines = lines
lines_after OutOfMemory lines = []

-- a bad block leaves it as it was
abbrev pub StaysIfBad : {A : Type 0} → ScanFault → A → A → Type 0
StaysIfBad Damaged old new = new ≡ old
StaysIfBad OutOfRange old new = new ≡ old
StaysIfBad OutOfMemory old new = ⊤
