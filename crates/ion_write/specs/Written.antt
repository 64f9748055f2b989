-- What a written block is.
use Rattle.std.specs.Prelude.{◌≡◌, ℕ, List}
use Rattle.value_meaning.specs.Val.{Val, vals}
use Rattle.block_meaning.specs.Tables.{Table}
use Rattle.block_meaning.specs.Blocks.{IsBlock}
use Rattle.write_meaning.specs.BlockBytes.{block_bytes}
use Rattle.write_meaning.specs.BlockTables.{IsTableOf}

-- The bytes are what is written for the rows under their table.
pub record AreWritten (rows : List Val) (bytes : List ℕ) : Type 0 where
  pub table : Table
  pub of_rows : IsTableOf (vals rows) table
  pub are : bytes ≡ block_bytes table rows

-- The bytes are a block of the rows, under their table.
pub record AreBlockOf (rows : List Val) (bytes : List ℕ) : Type 0 where
  pub table : Table
  pub of_rows : IsTableOf (vals rows) table
  pub block : IsBlock table rows bytes
