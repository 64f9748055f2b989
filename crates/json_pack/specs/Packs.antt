-- What packing answers and leaves.
use Rattle.std.specs.Prelude.{◌≡◌, ◌⊎◌, ℕ, ◌-◌, ◌^◌, min, List, take, Option, Some, None}
use Rattle.json_pack.specs.declared.sums.PackSum.{PackSum}
use Rattle.json_pack.specs.declared.sums.PackFault.{PackFault}
use Rattle.json_pack.specs.declared.sums.PackFault.TheVariants.{Exists, Line, ReadFault, WriteFault, OutOfMemory}
use Rattle.snel_device.specs.Contents.{Contents, Sets}
use Rattle.pack_meaning.specs.Lines.{Settings}
use Rattle.pack_meaning.specs.PackedFiles.{file_of, field_name, HoldsRows}
use Rattle.pack_meaning.specs.Packing.{Refusal, Sum, packed}

abbrev pub sum_view : PackSum → Sum
sum_view s = record { rows = s.rows; blocks = s.blocks; dropped = s.dropped; bytes = s.bytes }

-- the counts, each of which stands still at its type's end
abbrev pub counted : Sum → Sum
counted s = record {
  rows = min s.rows (2 ^ 64 - 1);
  blocks = s.blocks;
  dropped = min s.dropped (2 ^ 64 - 1);
  bytes = s.bytes;
}

-- the line that is refused
abbrev pub refusal_in : PackFault → Option Refusal
refusal_in Exists = None
refusal_in (Line number why) = Some (record { number = number; why = why })
refusal_in ReadFault = None
refusal_in WriteFault = None
refusal_in OutOfMemory = None

-- the file of the rows of lines
abbrev pub file_for : Settings → List (List ℕ) → List ℕ
file_for s lines = file_of s.time_field s.most (packed s lines)

-- The bytes are a block file of just the rows of the lines, in their order, whose entries are sound.
abbrev pub HoldsLines : Settings → List (List ℕ) → Type 0
HoldsLines s lines = HoldsRows (field_name s.time_field) (file_for s lines) (packed s lines)

-- The file of this name has a front of the file of these lines now, and no other file changed.
abbrev pub HasFrontOf : Settings → List (List ℕ) → Option Contents → Option Contents → List ℕ → Type 0
HasFrontOf s lines old new name = (n : ℕ) × Sets old new name (take n (file_for s lines))

-- No file changed, or the one of this name has a front of the file of some of the first lines now.
abbrev pub LeavesFront : Settings → List (List ℕ) → Option Contents → Option Contents → List ℕ → Type 0
LeavesFront s lines old new name = (new ≡ old) ⊎ ((k : ℕ) × HasFrontOf s (take k lines) old new name)
