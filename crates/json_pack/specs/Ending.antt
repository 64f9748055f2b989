-- What ends a file of rows.
use Rattle.std.specs.Prelude.{◌≡◌, ℕ, ◌-◌, ◌^◌, min, List, ◌++◌, length, take, Option}
use Rattle.snel_device.specs.Contents.{Contents, Extends}
use Rattle.pack_meaning.specs.Cuts.{Rows, cut}
use Rattle.pack_meaning.specs.PackedFiles.{file_of}
use Rattle.pack_meaning.specs.Packing.{Sum}
use Rattle.pack_blocks.specs.declared.writer.BlockWriter.{BlockWriter}
use Rattle.pack_blocks.specs.Writing.{IsWriting}
use Rattle.json_pack.specs.declared.packer.PackedRows.{PackedRows}

-- the bytes are a front of these
abbrev pub IsFront : List ℕ → List ℕ → Type 0
IsFront front bytes = (n : ℕ) × (front ≡ take n bytes)

-- what was added to the file of this name ends the file of the rows
abbrev pub EndsFile : Option (List ℕ) → BlockWriter → Option Contents → Option Contents → List ℕ → Type 0
EndsFile field w old new name =
    (most : ℕ) (done : Rows) (given : List ℕ) → IsWriting field most done given w → (piece : List ℕ) × Extends old new name piece × (given ++ piece ≡ file_of field most done)

-- a front of what ends the file of the rows was added to the file of this name
abbrev pub BreaksFile : Option (List ℕ) → BlockWriter → Option Contents → Option Contents → List ℕ → Type 0
BreaksFile field w old new name =
    (most : ℕ) (done : Rows) (given : List ℕ) → IsWriting field most done given w → (piece : List ℕ) × Extends old new name piece × IsFront (given ++ piece) (file_of field most done)

-- the counts of the rows
abbrev pub sum_for : Option (List ℕ) → ℕ → Rows → ℕ → Sum
sum_for field most rows dropped = record {
  rows = min (length rows) (2 ^ 64 - 1);
  blocks = length (cut most rows);
  dropped = dropped;
  bytes = length (file_of field most rows);
}

abbrev pub SumsUp : Option (List ℕ) → PackedRows → Sum → Type 0
SumsUp field r sum = (most : ℕ) (done : Rows) (given : List ℕ) → IsWriting field most done given r.writer → sum ≡ sum_for field most done r.dropped
