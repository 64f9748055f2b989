-- What a scan hands to a sink of the rows of blocks.
use Rattle.std.specs.Prelude.{◌≡◌, ℕ, ◌+◌, ◌/◌, Bool, true, false, List, length, ⊤, Option, Some, None}
use Rattle.std.specs.List.Sorted.{IsPermutation}
use Rattle.snel_device.specs.Causes.{raised}
use Rattle.value_meaning.specs.Val.{Val}
use Rattle.program_meaning.specs.Jobs.{Job}
use Rattle.block_lines.specs.RowLines.{kept_rows}
use Rattle.scan_meaning.specs.Blocks.{Block}
use Rattle.scan_meaning.specs.Batches.{rows_of, first_bad}
use Rattle.scan_batches.specs.Scans.{chunks_of}

module _ {A : Type 0} (grew : A → A → Job → List Val → Type 0) (job : Job) where
  -- None of the blocks is bad, the sink grew by the rows of theirs that pass, in some order, and their chunks and these rows were
  -- counted. Counts stand still at their end.
  pub record HandsRows (bs : List Block) (old new : A) (chunks now_chunks kept now_kept : ℕ) : Type 0 where
    pub good : first_bad bs ≡ None
    pub rows : List Val
    pub permutes : IsPermutation (kept_rows job (rows_of bs)) rows
    pub grew_by : grew old new job rows
    pub chunks_are : now_chunks ≡ raised chunks (chunks_of bs)
    pub kept_are : now_kept ≡ raised kept (length (kept_rows job (rows_of bs)))

  -- the same, with the rows in the order of the blocks
  pub record HandsInOrder (bs : List Block) (old new : A) (chunks now_chunks kept now_kept : ℕ) : Type 0 where
    pub good : first_bad bs ≡ None
    pub grew_by : grew old new job (kept_rows job (rows_of bs))
    pub chunks_are : now_chunks ≡ raised chunks (chunks_of bs)
    pub kept_are : now_kept ≡ raised kept (length (kept_rows job (rows_of bs)))

  -- the rows of a good block were handed on, its chunks and these rows counted
  pub record AddsRows (count : ℕ) (rows : List Val) (old new : A) (chunks now_chunks kept now_kept : ℕ) : Type 0 where
    pub grew_by : grew old new job (kept_rows job rows)
    pub chunks_are : now_chunks ≡ raised chunks ((count + 15) / 16)
    pub kept_are : now_kept ≡ raised kept (length (kept_rows job rows))

  -- a good block's rows were handed on; or the block is bad, and the sink is as it was
  abbrev pub AddsOf : ℕ → Option (List Val) → Bool → A → A → ℕ → ℕ → ℕ → ℕ → Type 0
  AddsOf count (Some rows) true old new c d k l = AddsRows count rows old new c d k l
  AddsOf count None false old new c d k l = new ≡ old
  AddsOf count o good old new c d k l = ⊥

-- the answer tells whether the block is good
abbrev pub IsTested : Option (List Val) → Bool → Type 0
IsTested (Some rows) true = ⊤
IsTested None false = ⊤
IsTested o good = ⊥
