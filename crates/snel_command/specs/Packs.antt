-- What a pack command owes: its line, the file that it makes, and when each status comes.
use Rattle.std.specs.Prelude.{◌≡◌, ◌≢◌, ◌⊎◌, ℕ, ◌-◌, List, [], ◌∷◌, ◌++◌, take, codes, ⊤, IsSome, Option, Some, None}
use Rattle.std.specs.Option.{ForSome}
use Rattle.std.specs.Fmt.{decimal}
use Rattle.std.specs.Io.KnownBytes.{Keeps, Appends}
use Rattle.snel_device.specs.Causes.{Rose}
use Rattle.snel_device.specs.Contents.{Contents, Sets}
use Rattle.scan_meaning.specs.Verdicts.{IsAmong}
use Rattle.pack_meaning.specs.Splitting.{lines_of}
use Rattle.pack_meaning.specs.Lines.{Settings}
use Rattle.pack_meaning.specs.Packing.{Sum, refusal, sum_of}
use Rattle.pack_meaning.specs.Packing as packing
use Rattle.json_pack.specs.declared.sums.PackFault.{PackFault}
use Rattle.json_pack.specs.declared.sums.PackFault.TheVariants.{Exists, Line}
use Rattle.json_pack.specs.Packs.{counted, file_for, HoldsLines, HasFrontOf, LeavesFront}
use Rattle.snel_words.specs.Words.{Packing}
use Rattle.snel_command.specs.Exactly.{Exactly}

-- how lines are packed, as packing's definitions say it
abbrev pub settings_of : Packing → Settings
settings_of p = record { time_field = p.time; most = p.block; drops = p.drops }

-- the line that tells the counts of what was packed
abbrev pub sum_line : Sum → List ℕ
sum_line s =
    codes "rows " ++ (decimal s.rows ++ (codes ", blocks " ++ (decimal s.blocks ++ (codes ", dropped " ++ (decimal s.dropped ++ codes "\n")))))

-- the line of an input that was packed
abbrev pub line_for : Packing → List ℕ → List ℕ
line_for p bytes = sum_line (counted (sum_of (settings_of p) (lines_of bytes)))

-- A pack ended with this status and this in the sink: the line of the input's counts at status 0, else a front of it.
pub record EndsPack (p : Packing) (name : List ℕ) (told : Option Contents) (left : Option (List ℕ)) (status : ℕ) (old new : Option (List ℕ)) : Type 0 where
  pub allowed : IsAmong status (12 ∷ 8 ∷ 11 ∷ 9 ∷ 0 ∷ 10 ∷ [])
  pub done : status ≡ 0 → ForSome left (λ bytes. Appends old new (line_for p bytes))
  pub front : ForSome left (λ bytes. (n : ℕ) × Appends old new (take n (line_for p bytes)))
  pub quiet : status ≢ 0 → status ≢ 9 → Keeps old new

-- what a fault says of the files and of the input
abbrev pub SaysOfPack : Packing → List ℕ → Option Contents → Option (List ℕ) → PackFault → Type 0
SaysOfPack p name told left Exists = ForSome told (λ files. IsSome (files name))
SaysOfPack p name told left (Line n why) =
    ForSome left (λ bytes. refusal (settings_of p) (lines_of bytes) ≡ Some (record { number = n; why = why }))
SaysOfPack p name told left fault = ⊤

-- no line of the input is refused
abbrev pub IsAllAccepted : Packing → Option (List ℕ) → Type 0
IsAllAccepted p left = ForSome left (λ bytes. refusal (settings_of p) (lines_of bytes) ≡ None)

-- What a pack made of the file of this name: at status 0 a block file of just the rows of the input's lines, at a refused line a front of the
-- file of the rows of the lines before, and otherwise nothing, or a front of the file of the rows of some first lines. A file that is there
-- already stays.
pub record MakesFile (p : Packing) (name : List ℕ) (left : Option (List ℕ)) (status : ℕ) (old new : Option Contents) : Type 0 where
  pub whole : status ≡ 0 → ForSome left (λ bytes. Sets old new name (file_for (settings_of p) (lines_of bytes)))
  pub holds : status ≡ 0 → ForSome left (λ bytes. HoldsLines (settings_of p) (lines_of bytes))
  pub before : status ≡ 11 → ForSome left (λ bytes. (r : packing.Refusal) × (refusal (settings_of p) (lines_of bytes) ≡ Some r)
      × HasFrontOf (settings_of p) (take (r.number - 1) (lines_of bytes)) old new name)
  pub front : ForSome left (λ bytes. LeavesFront (settings_of p) (lines_of bytes) old new name)
  pub kept : status ≡ 12 → new ≡ old

-- When a pack ends so: with 12 exactly where there is a file of this name, with 11 exactly where a line is refused, and else it is done, unless
-- a count of faults rose or memory wants.
pub record ComesOfPack (p : Packing) (name : List ℕ) (told : Option Contents) (left : Option (List ℕ)) (status files_before files_now input_before input_now out_before out_now : ℕ) : Type 0 where
  pub exists : ForSome told (λ files. Exactly 12 status (IsSome (files name)))
  pub refused : (files : Contents) (bytes : List ℕ) → told ≡ Some files → left ≡ Some bytes → files name ≡ None
      → ¬ Rose files_before files_now → ¬ Rose input_before input_now → Exactly 11 status (IsSome (refusal (settings_of p) (lines_of bytes)))
  pub done : (files : Contents) (bytes : List ℕ) → told ≡ Some files → left ≡ Some bytes → files name ≡ None
      → refusal (settings_of p) (lines_of bytes) ≡ None
      → ¬ Rose files_before files_now → ¬ Rose input_before input_now → ¬ Rose out_before out_now → (status ≡ 0) ⊎ (status ≡ 10)
