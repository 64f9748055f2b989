-- Block files, version 1: blocks end to end, an index, a tail. All numbers are big endian.
use Rattle.std.specs.Prelude.{◌≡◌, ℕ, ◌+◌, ◌≤◌, ◌⊎◌, ℤ, List, [], ◌∷◌, ◌++◌, length, take, drop, codes, FitsSigned, flat_map}
use Rattle.std.specs.Int.{to_be_bytes, cast_unsigned, w16, w32, w64}
use Rattle.std.specs.Str.{IsUtf8}
use Rattle.value_meaning.specs.Val.{Val}
use Rattle.block_meaning.specs.Tables.{Table}
use Rattle.block_meaning.specs.Blocks.{IsBlock, IsDamaged}
use Rattle.file_meaning.specs.declared.TheConstants.{MOST_BLOCKS, MOST_NAME_BYTES, MOST_ENTRY_BYTES, MOST_ENTRY_ROWS}

-- what the index says of a block: where it starts, its bytes and rows, and the least and greatest time of the indexed field in it
pub record Entry : Type 0 where
  pub start : ℕ
  pub length : ℕ
  pub rows : ℕ
  pub least : ℤ
  pub greatest : ℤ

abbrev pub entry_bytes : Entry → List ℕ
entry_bytes e =
    to_be_bytes w64 e.start ++ (to_be_bytes w32 e.length ++ (to_be_bytes w32 e.rows
    ++ (to_be_bytes w64 (cast_unsigned w64 e.least) ++ to_be_bytes w64 (cast_unsigned w64 e.greatest))))

-- the index: its magic, the indexed field's name, and the entries
abbrev pub index_bytes : List ℕ → List Entry → List ℕ
index_bytes field entries =
    codes "SNX1" ++ (to_be_bytes w16 (length field) ++ (field ++ (to_be_bytes w32 (length entries) ++ flat_map entry_bytes entries)))

-- the tail: where the index starts, and the magic
abbrev pub tail_bytes : ℕ → List ℕ
tail_bytes start = to_be_bytes w64 start ++ codes "SNX1"

-- the counts of an entry are within the limits of a file, and its times are such
pub record IsEntry (e : Entry) : Type 0 where
  pub some_bytes : 1 ≤ e.length
  pub few_bytes : e.length ≤ MOST_ENTRY_BYTES
  pub some_rows : 1 ≤ e.rows
  pub few_rows : e.rows ≤ MOST_ENTRY_ROWS
  pub least : FitsSigned w64 e.least
  pub greatest : FitsSigned w64 e.greatest

-- the blocks stand end to end from one place to the other
abbrev pub StandEndToEnd : ℕ → List Entry → ℕ → Type 0
StandEndToEnd from [] to = from ≡ to
StandEndToEnd from (e ∷ es) to = (e.start ≡ from) × IsEntry e × StandEndToEnd (from + e.length) es to

-- What an index may say: the field's name and the entries are in range, and the blocks stand end to end from 0 to this place.
pub record IsIndex (field : List ℕ) (entries : List Entry) (to : ℕ) : Type 0 where
  pub short_name : length field ≤ MOST_NAME_BYTES
  pub name : IsUtf8 field
  pub few : length entries ≤ MOST_BLOCKS
  pub stand : StandEndToEnd 0 entries to

-- The bytes are an index with this field and these entries, of blocks up to this place.
pub record SpellsIndex (bytes field : List ℕ) (entries : List Entry) (to : ℕ) : Type 0 where
  pub spelled : bytes ≡ index_bytes field entries
  pub within : IsIndex field entries to

-- The bytes are a block file with this index. Whether blocks are damaged is no part of it.
pub record IsFile (bytes field : List ℕ) (entries : List Entry) : Type 0 where
  pub blocks : List ℕ
  pub parts : bytes ≡ blocks ++ (index_bytes field entries ++ tail_bytes (length blocks))
  pub index : IsIndex field entries (length blocks)

-- the bytes of a block
abbrev pub bytes_at : Entry → List ℕ → List ℕ
bytes_at e bytes = take e.length (drop e.start bytes)

-- The rows of a block of the file: those of which its bytes are the block, or none where they are damaged for the entry's count.
abbrev pub AreEntryRows : Entry → List ℕ → List Val → Type 0
AreEntryRows e bytes rows =
    ((table : Table) × IsBlock table rows (bytes_at e bytes) × (length rows ≡ e.rows))
    ⊎ (IsDamaged e.rows (bytes_at e bytes) × (rows ≡ []))

-- The rows of a file's undamaged blocks, in order.
abbrev pub AreFileRows : List Entry → List ℕ → List Val → Type 0
AreFileRows [] bytes rows = rows ≡ []
AreFileRows (e ∷ es) bytes rows =
    (first : List Val) × (others : List Val) × (rows ≡ first ++ others) × AreEntryRows e bytes first × AreFileRows es bytes others
