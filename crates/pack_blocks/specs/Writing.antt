-- What a writer of blocks stands for: rows of which the closed blocks were given away, and the open one is held.
use Rattle.std.specs.Prelude.{◌≡◌, ℕ, ◌+◌, ◌*◌, ◌-◌, ◌^◌, ◌<◌, ◌≤◌, min, true, List, [], ◌∷◌, ◌++◌, length, take, sum_by, Option}
use Rattle.value_meaning.specs.Val.{Val}
use Rattle.snel_values.specs.View.{views}
use Rattle.file_meaning.specs.declared.TheConstants.{MOST_BLOCKS}
use Rattle.write_meaning.specs.Weights.{weight}
use Rattle.write_meaning.specs.Standing.{IsWritableRow, AreWritableRows}
use Rattle.pack_meaning.specs.Cuts.{Rows, cut, fits, IsCutSoFar}
use Rattle.pack_meaning.specs.PackedFiles.{file_of, MayBePacked}
use Rattle.pack_blocks.specs.Files.{HasBlocks}
use Rattle.pack_blocks.specs.declared.writer.BlockWriter.{BlockWriter}
use Rattle.pack_blocks.specs.declared.finishing.Finished.{Finished}

-- These rows came, in which the field is indexed, and these bytes of blocks were given away: some blocks are closed, whatever follows, and one is
-- open.
pub record IsWriting (field : Option (List ℕ)) (most : ℕ) (done : Rows) (given : List ℕ) (w : BlockWriter) : Type 0 where
  pub limit : w.most ≡ most
  pub may : MayBePacked field most done
  pub closed : List Rows
  pub so_far : IsCutSoFar most done closed (views w.rows.items)
  pub fit : fits most (views w.rows.items) ≡ true
  pub weighed : sum_by weight (views w.rows.items) ≡ w.weight
  pub writable : AreWritableRows (views w.rows.items)
  pub blocks : HasBlocks field closed given w.entries
  pub written : w.written ≡ length given
  pub short : w.written ≤ length w.entries * 1_000_032
  pub few : length w.entries ≤ MOST_BLOCKS
  pub counted : w.count ≡ min (length done) (2 ^ 64 - 1)

-- some rows came
pub record IsGoing (field : Option (List ℕ)) (w : BlockWriter) : Type 0 where
  pub most : ℕ
  pub done : Rows
  pub given : List ℕ
  pub is : IsWriting field most done given w

-- the row may stand in a block, and isn't too heavy for one
pub record CanTake (field : Option (List ℕ)) (w : BlockWriter) (v : Val) : Type 0 where
  pub going : IsGoing field w
  pub writable : IsWritableRow v
  pub light : weight v ≤ going.most

-- one more row came, and these bytes were given away
abbrev pub Adds : Option (List ℕ) → Val → BlockWriter → BlockWriter → List ℕ → Type 0
Adds field v old new bytes = (most : ℕ) (done : Rows) (given : List ℕ) → IsWriting field most done given old → IsWriting field most (done ++ v ∷ []) (given ++ bytes) new

-- with the row there would be more blocks than a file may have
abbrev pub IsFullFor : Option (List ℕ) → Val → BlockWriter → Type 0
IsFullFor field v w = (most : ℕ) (done : Rows) (given : List ℕ) → IsWriting field most done given w → MOST_BLOCKS < length (cut most (done ++ v ∷ []))

-- the open block may be closed
pub record MayClose (w : BlockWriter) : Type 0 where
  pub some : 1 ≤ length w.rows.items
  pub few : length w.rows.items ≤ 65_536
  pub writable : AreWritableRows (views w.rows.items)
  pub light : sum_by weight (views w.rows.items) ≤ 1_000_000
  pub start : w.written ≤ 2 ^ 62

-- The last block is closed, and its bytes were given away.
pub record HasAll (field : Option (List ℕ)) (most : ℕ) (done : Rows) (given : List ℕ) (w : BlockWriter) : Type 0 where
  pub all : HasBlocks field (cut most done) given w.entries
  pub written : w.written ≡ length given
  pub counted : w.count ≡ min (length done) (2 ^ 64 - 1)

abbrev pub ClosesAll : Option (List ℕ) → BlockWriter → BlockWriter → List ℕ → Type 0
ClosesAll field old new bytes = (most : ℕ) (done : Rows) (given : List ℕ) → IsWriting field most done given old → HasAll field most done (given ++ bytes) new

-- The bytes end the file of the rows, with these counts.
pub record IsFinished (field : Option (List ℕ)) (most : ℕ) (done : Rows) (given : List ℕ) (f : Finished) : Type 0 where
  pub file : given ++ f.bytes ≡ file_of field most done
  pub rows : f.rows ≡ min (length done) (2 ^ 64 - 1)
  pub blocks : f.blocks ≡ length (cut most done)
  pub length : f.length ≡ length (file_of field most done)

abbrev pub Finishes : Option (List ℕ) → BlockWriter → Finished → Type 0
Finishes field w f = (most : ℕ) (done : Rows) (given : List ℕ) → IsWriting field most done given w → IsFinished field most done given f
