-- What a scan of blocks owes.
use Rattle.std.specs.Prelude.{◌≡◌, ℕ, List, length, None, Option, Result, Ok, Err}
use Rattle.tree_meaning.specs.Tree.{Query}
use Rattle.scan_meaning.specs.Blocks.{Block}
use Rattle.scan_meaning.specs.Batches.{rows_of, first_bad, front, count_passed, Counts}
use Rattle.scan_meaning.specs.Answers.{AddsAnswer, AddsWhole, StopsAt, StopsReading, StopsPutting}
use Rattle.scan_batches.specs.Lines.{made_lines, let_through}
use Rattle.scan_batches.specs.Scans.{chunks_of, IsNumbered}
use Rattle.scan_batches.specs.declared.done.Done.{Done}
use Rattle.scan_batches.specs.declared.fault.ScanFault.{ScanFault}
use Rattle.scan_batches.specs.declared.fault.ScanFault.TheVariants.{Damaged, ReadFault, WriteFault, OutOfMemory}

-- The batches that count were scanned, none of their blocks is bad, and the lines of an answer for their rows were put.
pub record Finished (q : Query) (bs : List Block) (lines read chunks kept : ℕ) (old new : Option (List ℕ)) : Type 0 where
  pub count : ℕ
  pub counts : Counts q bs count
  pub good : first_bad (front count bs) ≡ None
  pub wrote : AddsWhole q (rows_of (front count bs)) old new
  pub lines_are : lines ≡ length (let_through q.skip q.take (made_lines q (rows_of (front count bs))))
  pub read_are : read ≡ length (front count bs)
  pub chunks_are : chunks ≡ chunks_of (front count bs)
  pub kept_are : kept ≡ count_passed q (front count bs)

abbrev pub ScansTo : Query → List Block → Result Done ScanFault → ℕ → ℕ → ℕ → ℕ → Option (List ℕ) → Option (List ℕ) → Type 0
ScansTo q bs (Ok d) before now chunks kept old new = Finished q bs d.lines d.read chunks kept old new
ScansTo q bs (Err (Damaged file block)) before now chunks kept old new = (b : Block) × IsNumbered b file block × StopsAt q bs b old new
ScansTo q bs (Err ReadFault) before now chunks kept old new = StopsReading q bs 0 before now old new
ScansTo q bs (Err WriteFault) before now chunks kept old new = StopsPutting q bs old new
ScansTo q bs (Err OutOfMemory) before now chunks kept old new = AddsAnswer q (rows_of bs) 10 old new
