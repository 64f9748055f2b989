-- What each fault says of the text, the names and the files.
use Rattle.std.specs.Prelude.{◌≡◌, ℕ, true, false, IsTrue, List, ⊤, Option, None, Some, Result, Ok, Err}
use Rattle.std.specs.Option.{ForSome}
use Rattle.std.specs.Io.KnownBytes.{Keeps}
use Rattle.snel_device.specs.Contents.{Contents}
use Rattle.tree_meaning.specs.Tree.{Query}
use Rattle.scan_meaning.specs.Blocks.{Block}
use Rattle.scan_meaning.specs.Batches.{rows_of, first_bad, is_plain, IsFirstBad, MayPass, MayPut}
use Rattle.scan_meaning.specs.Limits.{is_over}
use Rattle.scan_meaning.specs.Opened.{absent, no_file}
use Rattle.scan_meaning.specs.Verdicts.{scan, Finds}
use Rattle.scan_meaning.specs.Answers.{StopsAt, StopsReading, StopsPutting}
use Rattle.scan_meaning.specs.Causes.{IsFirst, index_costs}
use Rattle.scan_files.specs.Surveys.{FirstIsThere}
use Rattle.scan_files.specs.declared.fault.FilesFault.{FilesFault}
use Rattle.scan_files.specs.declared.fault.FilesFault.TheVariants as files_fault
use Rattle.scan_batches.specs.Scans.{IsNumbered}
use Rattle.scan_batches.specs.declared.fault.ScanFault.{ScanFault}
use Rattle.scan_batches.specs.declared.fault.ScanFault.TheVariants as scan_stop
use Rattle.query_run.specs.Queries.{Accepts, IsAccepted, Refuses}
use Rattle.query_run.specs.TextFaults.{refused_view}
use Rattle.query_run.specs.declared.query_fault.QueryFault.{QueryFault}
use Rattle.query_run.specs.declared.query_fault.QueryFault.TheVariants.{Text, Absent, NotAFile, Damaged, Groups, ReadFault, WriteFault, OutOfMemory}

-- what a fault says of a text that isn't compiled
abbrev pub SaysOfText : List ℕ → QueryFault → Type 0
SaysOfText sql (Text f) = Refuses sql (refused_view f)
SaysOfText sql OutOfMemory = ⊤
SaysOfText sql fault = ⊥

-- where files tell, all names have block files, and of the blocks that are to be scanned this holds
abbrev pub OfScan : Query → List (List ℕ) → Option Contents → (List Block → Type 0) → Type 0
OfScan q names told P = ForSome told (λ files. (bs : List Block) × ((n : ℕ) × Finds q names (Some files) (scan bs n)) × P bs)

-- what a fault says of the names and the files of an accepted query
abbrev pub SaysOfFiles : Query → ℕ → List (List ℕ) → Option Contents → QueryFault → Type 0
SaysOfFiles q limit names told (Absent k) = ForSome told (λ files. IsFirst files names k absent)
SaysOfFiles q limit names told (NotAFile k) = ForSome told (λ files. IsFirst files names k no_file)
SaysOfFiles q limit names told (Damaged file block) = OfScan q names told (λ bs. (b : Block) × IsNumbered b file block × IsFirstBad q bs b)
SaysOfFiles q limit names told Groups = OfScan q names told (λ bs. (first_bad bs ≡ None) × (is_over q limit (rows_of bs) ≡ true))
SaysOfFiles q limit names told ReadFault = ForSome told (λ files. FirstIsThere files names)
SaysOfFiles q limit names told WriteFault = OfScan q names told (λ bs. MayPut q bs × (is_over q limit (rows_of bs) ≡ false))
SaysOfFiles q limit names told OutOfMemory = ⊤
SaysOfFiles q limit names told (Text f) = ⊥

-- what an answer says of the names and the files of an accepted query: at Ok that no bad block stands in the way, and that the groups are
-- within the limit
abbrev pub SaysOfQuery : {A : Type 0} → Query → ℕ → List (List ℕ) → Option Contents → Result A QueryFault → Type 0
SaysOfQuery q limit names told (Ok a) = OfScan q names told (λ bs. MayPass q bs × (is_over q limit (rows_of bs) ≡ false))
SaysOfQuery q limit names told (Err fault) = SaysOfFiles q limit names told fault

-- the same of a text: a fault of the text says what stands against it, and every other answer but want of memory that it is accepted
abbrev pub HasItsCause : {A : Type 0} → List ℕ → ℕ → List (List ℕ) → Option Contents → Result A QueryFault → Type 0
HasItsCause sql limit names told (Err (Text f)) = Refuses sql (refused_view f)
HasItsCause sql limit names told (Err OutOfMemory) = ⊤
HasItsCause sql limit names told result = IsAccepted sql × ((q : Query) → Accepts sql q → SaysOfQuery q limit names told result)

-- A refused text, and a file that can't be opened, leave the sink as it was.
abbrev pub IsQuiet : {A : Type 0} → Result A QueryFault → Option (List ℕ) → Option (List ℕ) → Type 0
IsQuiet (Err (Text f)) old new = Keeps old new
IsQuiet (Err (Absent k)) old new = Keeps old new
IsQuiet (Err (NotAFile k)) old new = Keeps old new
IsQuiet result old new = ⊤

-- What a query leaves in the sink that a bad block, too many groups, a failed read or a failed put ends. A plain one has written the lines of whole batches: all
-- before the block's, at least as many as the count of bytes that were read tells, and at a failed put some lines of a batch more. Another has
-- written nothing before all blocks were read.
abbrev pub StopsSo : {A : Type 0} → Query → List (List ℕ) → Option Contents → Result A QueryFault → ℕ → ℕ → Option (List ℕ) → Option (List ℕ) → Type 0
StopsSo q names told (Err (Damaged file block)) before now old new =
    (IsTrue (is_plain q) → OfScan q names told (λ bs. (b : Block) × IsNumbered b file block × StopsAt q bs b old new))
    × (is_plain q ≡ false → Keeps old new)
StopsSo q names told (Err Groups) before now old new = Keeps old new
StopsSo q names told (Err ReadFault) before now old new =
    ForSome told (λ files. (bs : List Block) (n : ℕ) → Finds q names (Some files) (scan bs n) → StopsReading q bs (index_costs files names) before now old new)
    × (is_plain q ≡ false → Keeps old new)
StopsSo q names told (Err WriteFault) before now old new =
    IsTrue (is_plain q) → OfScan q names told (λ bs. StopsPutting q bs old new)
StopsSo q names told result before now old new = ⊤

-- what stands against the files, and against the blocks, as a fault of the query
abbrev pub query_fault : FilesFault → QueryFault
query_fault (files_fault.Absent k) = Absent k
query_fault (files_fault.NotAFile k) = NotAFile k
query_fault files_fault.ReadFault = ReadFault
query_fault files_fault.OutOfMemory = OutOfMemory

abbrev pub scan_fault : ScanFault → QueryFault
scan_fault (scan_stop.Damaged file block) = Damaged file block
scan_fault scan_stop.ReadFault = ReadFault
scan_fault scan_stop.WriteFault = WriteFault
scan_fault scan_stop.OutOfMemory = OutOfMemory
