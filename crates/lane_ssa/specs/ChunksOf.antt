-- Chunks of a block.
use Rattle.std.specs.Prelude.{ℕ, List, take, drop}
use Rattle.value_meaning.specs.Val.{Val}
use Rattle.block_meaning.specs.Tables.{Table}
use Rattle.block_file.specs.Chunks.{AreCellsOf}

-- the sixteen rows from the place on, or as many as there are
abbrev pub rows_from : ℕ → List Val → List Val
rows_from first rows = take 16 (drop first rows)

-- The cells are those of the rows from some place on.
pub record IsChunkOf (table : Table) (rows : List Val) (cells : List (List ℕ)) : Type 0 where
  pub first : ℕ
  pub are_cells : AreCellsOf table (rows_from first rows) cells
