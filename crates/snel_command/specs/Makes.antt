-- What a make command owes: its line, the file that it makes, its query over that file, and when each status comes.
use Rattle.std.specs.Prelude.{◌≡◌, ◌⊎◌, ◌≤◌, ℕ, List, [], ◌∷◌, ◌++◌, length, codes, ⊤, IsSome, Option, Some, None}
use Rattle.std.specs.Option.{ForSome}
use Rattle.std.specs.Fmt.{decimal}
use Rattle.std.specs.Io.KnownBytes.{Keeps, Appends}
use Rattle.snel_device.specs.Causes.{Rose}
use Rattle.snel_device.specs.Contents.{Contents, Sets}
use Rattle.value_meaning.specs.Val.{Val}
use Rattle.answer_meaning.specs.Made.{Output}
use Rattle.answer_meaning.specs.Lines.{print}
use Rattle.scan_meaning.specs.Verdicts.{IsAmong}
use Rattle.scan_meaning.specs.Answers.{AreAnswer, IsPrefix}
use Rattle.log_meaning.specs.Rows.{log_rows}
use Rattle.pack_meaning.specs.Packing.{Sum}
use Rattle.pack_meaning.specs.PackedFiles.{HoldsRows}
use Rattle.make_meaning.specs.LogQuery.{query, EndsOver}
use Rattle.query_run.specs.declared.query_fault.QueryFault.{QueryFault}
use Rattle.query_run.specs.declared.query_fault.QueryFault.TheVariants as of_query
use Rattle.json_pack.specs.declared.sums.PackFault.{PackFault}
use Rattle.json_pack.specs.declared.sums.PackFault.TheVariants as of_pack
use Rattle.json_pack.specs.Making.{made_file, made_sum, HoldsLog, LeavesLogFront}
use Rattle.snel_command.specs.Exactly.{Exactly}

-- the line that tells the counts of a made log
abbrev pub made_line : Sum → List ℕ
made_line s =
    codes "rows " ++ (decimal s.rows ++ (codes ", blocks " ++ (decimal s.blocks ++ (codes ", bytes " ++ (decimal s.bytes ++ codes "\n")))))

-- the line of the log with this start and so many rows
abbrev pub log_line : ℕ → ℕ → List ℕ
log_line start count = made_line (made_sum start count)

-- the most groups of the query
abbrev pub most_groups : ℕ
most_groups = 1_048_576

-- A sink took the line of the log and the lines of an answer of the query for its rows: all of them at status 0, else a front.
pub record PutsLog (start count status : ℕ) (old new : Option (List ℕ)) : Type 0 where
  pub outputs : List Output
  pub answer : AreAnswer query (log_rows start count) outputs
  pub added : List ℕ
  pub appends : Appends old new added
  pub whole : status ≡ 0 → added ≡ log_line start count ++ print outputs
  pub front : IsPrefix added (log_line start count ++ print outputs)

-- The query over the file of this name ended with this status: over a file of few rows whose entries are sound as it ends over these. Where
-- a file, a block, too many groups or a failed read stands in its way, it has put nothing.
pub record QueriesLog (name : List ℕ) (told : Option Contents) (status : ℕ) (old new : Option (List ℕ)) : Type 0 where
  pub allowed : IsAmong status (4 ∷ 8 ∷ 5 ∷ 6 ∷ 7 ∷ 9 ∷ 0 ∷ 10 ∷ [])
  pub over :
      (field bytes : List ℕ) (rows : List Val) (files : Contents) → told ≡ Some files → HoldsRows field bytes rows → files name ≡ Some bytes
      → length rows ≤ most_groups → EndsOver rows status old new
  pub untold : told ≡ None → (lines : List ℕ) × Appends old new lines
  pub stopped : 4 ≤ status → status ≤ 8 → Keeps old new

-- A make ended with this status and this in the sink. Where files tell, no file, no block and no number of groups stands in the query's way.
pub record EndsMake (start count : ℕ) (told : Option Contents) (status : ℕ) (old new : Option (List ℕ)) : Type 0 where
  pub allowed : IsAmong status (12 ∷ 4 ∷ 8 ∷ 5 ∷ 6 ∷ 7 ∷ 9 ∷ 0 ∷ 10 ∷ [])
  pub found : ForSome told (λ files. IsAmong status (12 ∷ 8 ∷ 9 ∷ 0 ∷ 10 ∷ []))
  pub done : status ≡ 0 → (lines : List ℕ) × Appends old new (log_line start count ++ lines)
  pub lined : 4 ≤ status → status ≤ 8 → Appends old new (log_line start count)
  pub quiet : status ≡ 12 → Keeps old new

-- what a fault says of the files before: that there is a file of the name, or, of the query over the log's file, that files don't tell
abbrev pub SaysOfMaking : List ℕ → Option Contents → PackFault → Type 0
SaysOfMaking name told of_pack.Exists = ForSome told (λ files. IsSome (files name))
SaysOfMaking name told (of_pack.Line n why) = ⊥
SaysOfMaking name told of_pack.ReadFault = ⊥
SaysOfMaking name told of_pack.WriteFault = ⊤
SaysOfMaking name told of_pack.OutOfMemory = ⊤

abbrev pub SaysOfLogQuery : Option Contents → QueryFault → Type 0
SaysOfLogQuery told (of_query.Text f) = ⊥
SaysOfLogQuery told (of_query.Absent k) = told ≡ None
SaysOfLogQuery told (of_query.NotAFile k) = told ≡ None
SaysOfLogQuery told (of_query.Damaged file block) = told ≡ None
SaysOfLogQuery told of_query.Groups = told ≡ None
SaysOfLogQuery told of_query.ReadFault = ⊤
SaysOfLogQuery told of_query.WriteFault = ⊤
SaysOfLogQuery told of_query.OutOfMemory = ⊤

-- What a make did to the file of this name: where its query ran to an end or was stopped by what it found, the file is that of the log, which
-- holds just the log's rows, and otherwise it is a front of that, or nothing. A file that is there already stays.
pub record MakesLog (start count : ℕ) (name : List ℕ) (status : ℕ) (old new : Option Contents) : Type 0 where
  pub whole : status ≡ 0 → Sets old new name (made_file start count)
  pub holds : status ≡ 0 → HoldsLog start count
  pub queried : 4 ≤ status → status ≤ 8 → Sets old new name (made_file start count)
  pub front : LeavesLogFront start count old new name
  pub kept : status ≡ 12 → new ≡ old

-- When a make ends so: with 12 exactly where there is a file of this name; and where there is none and no write to files or to the output failed, it is done,
-- unless a read failed or memory wants.
pub record ComesOfMake (name : List ℕ) (told : Option Contents) (status files_before files_now out_before out_now : ℕ) : Type 0 where
  pub exists : ForSome told (λ files. Exactly 12 status (IsSome (files name)))
  pub done : (files : Contents) → told ≡ Some files → files name ≡ None → ¬ Rose files_before files_now → ¬ Rose out_before out_now
      → (status ≡ 0) ⊎ ((status ≡ 8) ⊎ (status ≡ 10))
