-- What making a log answers and leaves.
use Rattle.std.specs.Prelude.{◌≡◌, ◌⊎◌, ℕ, suc, List, ◌++◌, take, codes, Option, Some}
use Rattle.snel_device.specs.Contents.{Contents, Sets, Extends}
use Rattle.log_meaning.specs.Rows.{log_rows}
use Rattle.pack_meaning.specs.PackedFiles.{file_of, HoldsRows}
use Rattle.pack_meaning.specs.Packing.{Sum}
use Rattle.pack_blocks.specs.Writing.{IsWriting}
use Rattle.json_pack.specs.declared.packer.PackedRows.{PackedRows}
use Rattle.json_pack.specs.Ending.{sum_for}

-- the field of times, and the most weight of a block's rows
abbrev pub time_field : Option (List ℕ)
time_field = Some (codes "time")

abbrev pub most : ℕ
most = 1_000_000

-- the file of the first rows of the log with this start, so many
abbrev pub made_file : ℕ → ℕ → List ℕ
made_file start count = file_of time_field most (log_rows start count)

-- The bytes are a block file of just these rows, whose entries are sound.
abbrev pub HoldsLog : ℕ → ℕ → Type 0
HoldsLog start count = HoldsRows (codes "time") (made_file start count) (log_rows start count)

-- the counts of a made log
abbrev pub made_sum : ℕ → ℕ → Sum
made_sum start count = sum_for time_field most (log_rows start count) 0

-- No file changed, or the one of this name has a front of the file of the log now, and no other file changed.
abbrev pub LeavesLogFront : ℕ → ℕ → Option Contents → Option Contents → List ℕ → Type 0
LeavesLogFront start count old new name = (new ≡ old) ⊎ ((n : ℕ) × Sets old new name (take n (made_file start count)))

-- the first rows of the log were added, so many, and these bytes of blocks were given away
abbrev pub HasMade : ℕ → ℕ → List ℕ → PackedRows → Type 0
HasMade start count given r = IsWriting time_field most (log_rows start count) given r.writer

-- some rows of the log were added
pub record CanMake (start count : ℕ) (r : PackedRows) : Type 0 where
  pub given : List ℕ
  pub made : HasMade start count given r

-- one more row of the log was added
abbrev pub MakesRow : ℕ → ℕ → PackedRows → PackedRows → List ℕ → Type 0
MakesRow start count old new closed = (given : List ℕ) → HasMade start count given old → HasMade start (suc count) (given ++ closed) new

-- So many rows of the log were added, and the blocks that are closed were added to the file of this name.
pub record IsMaking (start count : ℕ) (old new : Option Contents) (name : List ℕ) (r : PackedRows) : Type 0 where
  pub given : List ℕ
  pub made : HasMade start count given r
  pub dropped : r.dropped ≡ 0
  pub added : Extends old new name given
