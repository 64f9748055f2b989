-- Blocks of the named files, and the rows that they hold.
use Rattle.std.specs.Prelude.{ℕ, suc, Bool, true, ◌&&◌, ◌||◌, ◌==◌, int_le, List, [], ◌∷◌, length, Option, Some, None, if◌then◌else◌}
use Rattle.std.specs.List.{list_all}
use Rattle.std.specs.Option.{option_and_then}
use Rattle.value_meaning.specs.Val.{Val, time}
use Rattle.block_meaning.specs.Blocks.{block_in}
use Rattle.file_meaning.specs.Files.{Entry, bytes_at}
use Rattle.tree_meaning.specs.Tree.{name}
use Rattle.eval_meaning.specs.Paths.{step_of}

-- where a block stands: its file's number among the named ones, its own number in the file, and what the index says of it
pub record Place : Type 0 where
  pub file : ℕ
  pub block : ℕ
  pub entry : Entry

-- a block of a file: its place, the field that the file indexes, and its bytes
pub record Block : Type 0 where
  pub place : Place
  pub field : List ℕ
  pub bytes : List ℕ

-- the places of a file's blocks, in order, where the first has this number
abbrev pub places_from : ℕ → ℕ → List Entry → List Place
places_from file from [] = []
places_from file from (e ∷ es) = record { file = file; block = from; entry = e } ∷ places_from file (suc from) es

-- the block at a place of a file with these bytes and this indexed field
abbrev pub block_of : List ℕ → List ℕ → Place → Block
block_of bytes field p = record { place = p; field = field; bytes = bytes_at p.entry bytes }

-- the rows of a block; none where it is damaged for the entry's count of rows
unfoldable pub stored_rows : Block → Option (List Val)
stored_rows b = option_and_then (λ x. if length x.1 == b.place.entry.rows then Some x.1 else None) (block_in b.bytes)

-- the value, if it is a time, lies from the entry's least to its greatest
abbrev pub lies_within : Entry → Val → Bool
lies_within entry (time t) = int_le entry.least t && int_le t entry.greatest
lies_within entry v = true

-- each time that one of the rows holds in its own pair of the indexed field lies so; the empty name says that no field is indexed
unfoldable pub is_sound : List ℕ → Entry → List Val → Bool
is_sound field entry rows = (length field == 0) || list_all (λ row. lies_within entry (step_of (name field) row)) rows

-- The rows of a block that isn't bad: it is neither damaged nor does it break the range that the index tells. None where it is bad.
unfoldable pub good_rows : Block → Option (List Val)
good_rows b = option_and_then (λ rows. if is_sound b.field b.place.entry rows then Some rows else None) (stored_rows b)
