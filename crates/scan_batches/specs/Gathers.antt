-- What gathering the rows of blocks says.
use Rattle.std.specs.Prelude.{◌≡◌, ℕ, ◌+◌, ◌<◌, ◌≤◌, ◌^◌, List, ⊤, ◌++◌, length, map, None}
use Rattle.snel_device.specs.Causes.{raised}
use Rattle.value_meaning.specs.Val.{Val}
use Rattle.tree_meaning.specs.Tree.{Query}
use Rattle.scan_meaning.specs.Blocks.{Block}
use Rattle.scan_meaning.specs.Batches.{rows_of, first_bad, front, size_of, count_passed}
use Rattle.scan_batches.specs.Scans.{chunks_of}
use Rattle.scan_batches.specs.declared.fault.ScanFault.{ScanFault}
use Rattle.scan_batches.specs.declared.fault.ScanFault.TheVariants.{ReadFault}

-- None of the blocks is bad, what stood for some rows stands for theirs behind them, and their chunks and the rows that passed were counted.
-- Counts stand still at their end.
pub record Gathers (q : Query) (bs : List Block) (rows : List Val) (stands : List Val → Type 0) (chunks now_chunks kept now_kept : ℕ) : Type 0 where
  pub good : first_bad bs ≡ None
  pub stand : stands (rows ++ rows_of bs)
  pub chunks_are : now_chunks ≡ raised chunks (chunks_of bs)
  pub kept_are : now_kept ≡ raised kept (count_passed q bs)

-- None of the blocks is bad, what gathered stands for their rows, which are few, and their chunks and the rows that passed were counted.
pub record Gathered (q : Query) (bs : List Block) (stands : List Val → Type 0) (chunks kept : ℕ) : Type 0 where
  pub good : first_bad bs ≡ None
  pub stand : stands (rows_of bs)
  pub few : length (rows_of bs) ≤ 2 ^ 42
  pub chunks_are : chunks ≡ chunks_of bs
  pub kept_are : kept ≡ count_passed q bs

-- Where a failed read ends the gathering, some batches were read, none of whose blocks is bad, and at least as many as the count of bytes
-- that were read tells.
abbrev pub StopsGathering : ScanFault → List Block → ℕ → ℕ → Type 0
StopsGathering ReadFault bs before now =
    (batches : ℕ) × ((i : ℕ) → before + size_of (front i bs) < now → i ≤ batches) × (first_bad (front batches bs) ≡ None)
StopsGathering fault bs before now = ⊤

-- the lines of made rows, in order
abbrev pub lines_of : List (List Val × List ℕ) → List (List ℕ)
lines_of rows = map (λ r. r.1) rows
