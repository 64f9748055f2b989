-- The one file that is written for rows.
use Rattle.std.specs.Prelude.{◌≡◌, ℕ, ◌+◌, ◌≤◌, ℤ, pos, Bool, ◌&&◌, nat_le, List, [], ◌∷◌, ◌++◌, length, fold, count_by, bytes_eq, flat_map, Option, Some, None, unwrap_or}
use Rattle.std.specs.List.{filter, filter_map}
use Rattle.std.specs.Int.{int_min, int_max}
use Rattle.std.specs.Str.{IsUtf8}
use Rattle.value_meaning.specs.Val.{Val, Vals, time, vals}
use Rattle.value_meaning.specs.Sound.{AreSound}
use Rattle.tree_meaning.specs.Tree.{name}
use Rattle.eval_meaning.specs.Paths.{step_of}
use Rattle.block_meaning.specs.Tables.{Table}
use Rattle.block_meaning.specs.Blocks.{IsBlock}
use Rattle.file_meaning.specs.declared.TheConstants.{MOST_BLOCKS, MOST_NAME_BYTES}
use Rattle.file_meaning.specs.Files.{Entry, index_bytes, tail_bytes, bytes_at, IsFile, AreFileRows}
use Rattle.range_meaning.specs.Excluded.{IsSoundEntry}
use Rattle.write_meaning.specs.BlockBytes.{block_bytes}
use Rattle.write_meaning.specs.BlockTables.{item_names, item_texts, is_short, placed_all}
use Rattle.write_meaning.specs.Standing.{AreWritableRows}
use Rattle.pack_meaning.specs.Cuts.{Rows, cut, EachFits}

-- the text has 3 to 32 bytes and occurs at least twice among the values
abbrev pub is_repeated : Vals → List ℕ → Bool
is_repeated rows s = is_short s && nat_le 2 (count_by (λ t. bytes_eq t s) (item_texts rows))

-- the symbol table of a block: each name, and each repeated text
unfoldable pub table_of : Rows → Table
table_of rows = placed_all (item_names (vals rows) ++ filter (is_repeated (vals rows)) (item_texts (vals rows))) []

-- the bytes of a block
unfoldable pub block_of : Rows → List ℕ
block_of rows = block_bytes (table_of rows) rows

-- the value, if it is a time
abbrev pub as_moment : Val → Option ℤ
as_moment (time t) = Some t
as_moment v = None

-- the times that the rows hold in their own pair of the field, if there is one
abbrev pub times_in : Option (List ℕ) → Rows → List ℤ
times_in None rows = []
times_in (Some field) rows = filter_map (λ row. as_moment (step_of (name field) row)) rows

-- the least and the greatest of times, 1 and 0 where there are none
abbrev pub least_of : List ℤ → ℤ
least_of [] = pos 1
least_of (t ∷ ts) = fold int_min t ts

abbrev pub greatest_of : List ℤ → ℤ
greatest_of [] = pos 0
greatest_of (t ∷ ts) = fold int_max t ts

-- what the index says of a block that starts there
abbrev pub entry_of : Option (List ℕ) → ℕ → Rows → Entry
entry_of field start rows = record {
  start = start;
  length = length (block_of rows);
  rows = length rows;
  least = least_of (times_in field rows);
  greatest = greatest_of (times_in field rows);
}

-- the entries of blocks end to end
abbrev pub entries_of : Option (List ℕ) → ℕ → List Rows → List Entry
entries_of field start [] = []
entries_of field start (rows ∷ blocks) = entry_of field start rows ∷ entries_of field (start + length (block_of rows)) blocks

-- the name of the indexed field, empty where none is
abbrev pub field_name : Option (List ℕ) → List ℕ
field_name field = unwrap_or field []

-- what follows the blocks of a file
unfoldable pub index_of : Option (List ℕ) → List Rows → List ℕ
index_of field blocks =
    index_bytes (field_name field) (entries_of field 0 blocks) ++ tail_bytes (length (flat_map block_of blocks))

-- The file of rows, cut into blocks of at most so much weight, in which this field is indexed.
unfoldable pub file_of : Option (List ℕ) → ℕ → Rows → List ℕ
file_of field most rows = flat_map block_of (cut most rows) ++ index_of field (cut most rows)

-- The rows may be packed: each may stand in a block, alone it isn't too heavy for one, and their blocks aren't too many.
pub record MayBePacked (field : Option (List ℕ)) (most : ℕ) (rows : Rows) : Type 0 where
  pub short_name : length (field_name field) ≤ MOST_NAME_BYTES
  pub name : IsUtf8 (field_name field)
  pub low : most ≤ 1_000_000
  pub sound : AreSound (vals rows)
  pub writable : AreWritableRows rows
  pub fit : EachFits most rows
  pub few : length (cut most rows) ≤ MOST_BLOCKS

-- each entry of these is of a block, and tells the times of its rows
abbrev pub AreSoundEntries : List ℕ → List Entry → List ℕ → Type 0
AreSoundEntries field [] bytes = Unit {0}
AreSoundEntries field (e ∷ es) bytes =
    ((table : Table) × (rows : Rows) × IsBlock table rows (bytes_at e bytes) × (length rows ≡ e.rows) × IsSoundEntry field e rows)
    × AreSoundEntries field es bytes

-- The bytes are a block file of just these rows, in their order, whose entries are sound.
pub record HoldsRows (field bytes : List ℕ) (rows : Rows) : Type 0 where
  pub entries : List Entry
  pub file : IsFile bytes field entries
  pub held : AreFileRows entries bytes rows
  pub sound : AreSoundEntries field entries bytes
