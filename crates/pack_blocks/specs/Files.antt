-- Blocks that are written.
use Rattle.std.specs.Prelude.{◌≡◌, ℕ, List, length, flat_map, Option}
use Rattle.file_meaning.specs.Files.{Entry}
use Rattle.pack_meaning.specs.Cuts.{Rows}
use Rattle.pack_meaning.specs.PackedFiles.{block_of, entries_of}

-- the bytes and the entries are those of the blocks
pub record HasBlocks (field : Option (List ℕ)) (blocks : List Rows) (bytes : List ℕ) (entries : List Entry) : Type 0 where
  pub all : bytes ≡ flat_map block_of blocks
  pub listed : entries ≡ entries_of field 0 blocks
