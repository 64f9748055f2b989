-- What scanning a batch says.
use Rattle.std.specs.Prelude.{◌≡◌, ℕ, ◌+◌, ◌/◌, List, slice_get, ⊤, Some, None, sum_by}
use Rattle.snel_device.specs.Causes.{raised}
use Rattle.tree_meaning.specs.Tree.{Query}
use Rattle.scan_meaning.specs.Blocks.{Block}
use Rattle.scan_meaning.specs.Batches.{rows_of, first_bad, count_passed}
use Rattle.scan_batches.specs.Lines.{made_lines}
use Rattle.scan_batches.specs.declared.fault.BatchFault.{BatchFault}
use Rattle.scan_batches.specs.declared.fault.BatchFault.TheVariants as batch
use Rattle.scan_batches.specs.declared.fault.ScanFault.{ScanFault}
use Rattle.scan_batches.specs.declared.fault.ScanFault.TheVariants.{Damaged, WriteFault}

-- sixteen rows are a chunk
abbrev pub chunks_of : List Block → ℕ
chunks_of bs = sum_by (λ b. (b.place.entry.rows + 15) / 16) bs

-- None of the blocks is bad, these are the lines of what the query makes of their rows, and their chunks and the rows that passed were
-- counted. Counts stand still at their end.
pub record Scans (q : Query) (bs : List Block) (lines : List (List ℕ)) (chunks now_chunks kept now_kept : ℕ) : Type 0 where
  pub good : first_bad bs ≡ None
  pub lines_are : lines ≡ made_lines q (rows_of bs)
  pub chunks_are : now_chunks ≡ raised chunks (chunks_of bs)
  pub kept_are : now_kept ≡ raised kept (count_passed q bs)

-- what a fault says of the blocks of a batch
abbrev pub SaysOfBatch : List Block → BatchFault → Type 0
SaysOfBatch bs (batch.Bad k) = (b : Block) × (slice_get bs k ≡ Some b) × (first_bad bs ≡ Some b)
SaysOfBatch bs batch.OutOfMemory = ⊤

-- nothing was put yet
abbrev pub IsReading : ScanFault → Type 0
IsReading WriteFault = ⊥
IsReading fault = ⊤

-- the block has these numbers
pub record IsNumbered (b : Block) (file block : ℕ) : Type 0 where
  pub of_file : b.place.file ≡ file
  pub of_block : b.place.block ≡ block

-- this block is the one that a fault names, if it names one
abbrev pub NamesBlock : ScanFault → (Block → Type 0) → Type 0
NamesBlock (Damaged file block) P = (b : Block) × IsNumbered b file block × P b
NamesBlock fault P = ⊤
