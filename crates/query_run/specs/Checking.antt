-- What checking files owes.
use Rattle.std.specs.Prelude.{◌≡◌, ℕ, List, [], Option, Some, None, slice_get, Result, Ok, Err, ⊤}
use Rattle.std.specs.Option.{ForSome}
use Rattle.std.specs.Io.KnownBytes.{Appends}
use Rattle.snel_device.specs.Contents.{Contents}
use Rattle.scan_meaning.specs.Blocks.{Place, Block}
use Rattle.scan_meaning.specs.Batches.{first_bad}
use Rattle.scan_meaning.specs.Opened.{Opened, absent, no_file, opened, IsNamed, blocks_of}
use Rattle.scan_meaning.specs.Answers.{IsPrefix}
use Rattle.scan_meaning.specs.Checks.{Checked, sound, absent_file, other_file, bad_block, ChecksAs, EndsCheck, check_line}
use Rattle.query_run.specs.declared.query_fault.QueryFault.{QueryFault}
use Rattle.query_run.specs.declared.query_fault.QueryFault.TheVariants.{Text, Absent, NotAFile, Damaged, Groups, ReadFault, WriteFault, OutOfMemory}

-- where files tell, checking these names ended so, whatever the files are found to be
abbrev pub Checks : List (List ℕ) → Option Contents → ℕ → Option (List ℕ) → Option (List ℕ) → Type 0
Checks names told status old new =
    ForSome told (λ files. (c : Checked) → ChecksAs names files c → EndsCheck names files status old new)

-- one of the names is that of a block file of which no block is bad
abbrev pub HasSoundFile : List (List ℕ) → Contents → Type 0
HasSoundFile names files =
    (k : ℕ) × (name : List ℕ) × (o : Opened) × (slice_get names k ≡ Some name) × IsNamed (files name) (opened o) × (first_bad (blocks_of k o) ≡ None)

-- What the answer says of the names and the files. A put fails only where a line is put, that of a sound file.
abbrev pub HasCheckCause : {A : Type 0} → List (List ℕ) → Option Contents → Result A QueryFault → Type 0
HasCheckCause names told (Ok a) = ForSome told (λ files. ChecksAs names files sound)
HasCheckCause names told (Err (Absent k)) = ForSome told (λ files. ChecksAs names files (absent_file k))
HasCheckCause names told (Err (NotAFile k)) = ForSome told (λ files. ChecksAs names files (other_file k))
HasCheckCause names told (Err (Damaged file block)) =
    ForSome told (λ files. (p : Place) × (p.block ≡ block) × ChecksAs names files (bad_block file p))
HasCheckCause names told (Err (Text f)) = ⊥
HasCheckCause names told (Err Groups) = ⊥
HasCheckCause names told (Err WriteFault) = ForSome told (λ files. HasSoundFile names files)
HasCheckCause names told (Err fault) = ⊤

-- What checking the file of this name, which has this number, says of it, and what is written: its line where no block is bad, at a failed
-- put a prefix of it, and else nothing.
abbrev pub SaysOfOne : {A : Type 0} → Option (List ℕ) → List ℕ → ℕ → Result A QueryFault → Option (List ℕ) → Option (List ℕ) → Type 0
SaysOfOne file name n (Ok a) old new = (o : Opened) × IsNamed file (opened o) × (first_bad (blocks_of n o) ≡ None) × Appends old new (check_line name o.entries)
SaysOfOne file name n (Err (Absent k)) old new = (k ≡ n) × IsNamed file absent × Appends old new []
SaysOfOne file name n (Err (NotAFile k)) old new = (k ≡ n) × IsNamed file no_file × Appends old new []
SaysOfOne file name n (Err (Damaged k block)) old new =
    (o : Opened) × (b : Block) × (k ≡ n) × IsNamed file (opened o) × (first_bad (blocks_of n o) ≡ Some b) × (b.place.block ≡ block) × Appends old new []
SaysOfOne file name n (Err ReadFault) old new = (file ≡ None → ⊥) × Appends old new []
SaysOfOne file name n (Err WriteFault) old new =
    (o : Opened) × (added : List ℕ) × IsNamed file (opened o) × (first_bad (blocks_of n o) ≡ None) × Appends old new added × IsPrefix added (check_line name o.entries)
SaysOfOne file name n (Err OutOfMemory) old new = Appends old new []
SaysOfOne file name n (Err (Text f)) old new = ⊥
SaysOfOne file name n (Err Groups) old new = ⊥

-- the answer is of the files, and neither of a text nor of groups
abbrev pub IsOfFiles : {A : Type 0} → Result A QueryFault → Type 0
IsOfFiles (Err (Text f)) = ⊥
IsOfFiles (Err Groups) = ⊥
IsOfFiles result = ⊤

-- a put answers no other fault
abbrev pub IsOfOut : {A : Type 0} → Result A QueryFault → Type 0
IsOfOut (Ok a) = ⊤
IsOfOut (Err WriteFault) = ⊤
IsOfOut (Err OutOfMemory) = ⊤
IsOfOut (Err fault) = ⊥
