-- Block files by reading: the tail, then the index at the place that the tail names.
use Rattle.std.specs.Prelude.{ℕ, zero, suc, ◌+◌, ◌-◌, ◌*◌, ◌<◌, Bool, ◌&&◌, List, [], ◌∷◌, length, take, drop, codes, Option, Some, None, ◌==◌, nat_le, slice_index, if◌then◌else◌}
use Rattle.std.specs.Option.{option_map, option_and_then}
use Rattle.std.specs.Int.{from_be_bytes, cast_signed, w16, w32, w64}
use Rattle.std.specs.Str.{bytes_eq, is_utf8}
use Rattle.file_meaning.specs.declared.TheConstants.{MOST_BLOCKS, MOST_NAME_BYTES, MOST_ENTRY_BYTES, MOST_ENTRY_ROWS, LEAST_INDEX_BYTES, MOST_INDEX_BYTES}
use Rattle.file_meaning.specs.Files.{Entry}

-- each number of the list is a byte
abbrev pub AreBytes : List ℕ → Type 0
AreBytes bytes = (i : ℕ) → slice_index bytes i < 256

-- the big endian numbers of 2, 4 and 8 bytes at a place
unfoldable pub u16_at : ℕ → List ℕ → ℕ
u16_at at bytes = from_be_bytes w16 (take 2 (drop at bytes))

unfoldable pub u32_at : ℕ → List ℕ → ℕ
u32_at at bytes = from_be_bytes w32 (take 4 (drop at bytes))

unfoldable pub u64_at : ℕ → List ℕ → ℕ
u64_at at bytes = from_be_bytes w64 (take 8 (drop at bytes))

-- the four bytes at a place are the magic
unfoldable pub has_magic : ℕ → List ℕ → Bool
has_magic at bytes = bytes_eq (take 4 (drop at bytes)) (codes "SNX1")

-- what the 32 bytes at a place say of a block
unfoldable pub entry_at : ℕ → List ℕ → Entry
entry_at at bytes = record {
  start = u64_at at bytes;
  length = u32_at (at + 8) bytes;
  rows = u32_at (at + 12) bytes;
  least = cast_signed w64 (u64_at (at + 16) bytes);
  greatest = cast_signed w64 (u64_at (at + 24) bytes);
}

-- the entry is of a block that starts there, and is in range
unfoldable pub stands_at : ℕ → Entry → Bool
stands_at from e =
    (e.start == from) && nat_le 1 e.length && nat_le e.length MOST_ENTRY_BYTES && nat_le 1 e.rows && nat_le e.rows MOST_ENTRY_ROWS

-- so many entries at a place, of blocks that stand end to end from one place to the other
unfoldable pub entries_at : ℕ → ℕ → ℕ → ℕ → List ℕ → Option (List Entry)
entries_at from to zero at bytes = if from == to then Some [] else None
entries_at from to (suc count) at bytes =
    let e = entry_at at bytes in
    if stands_at from e then option_map (λ es. e ∷ es) (entries_at (from + e.length) to count (at + 32) bytes) else None

-- the name at a place, and behind it the entries up to the end of the bytes
unfoldable pub named_at : ℕ → ℕ → ℕ → List ℕ → Option (List ℕ × List Entry)
named_at to n count bytes =
    let name = take n (drop 6 bytes) in
    if nat_le n MOST_NAME_BYTES && nat_le count MOST_BLOCKS && (length bytes == 10 + n + 32 * count) && is_utf8 name
    then option_map (λ es. (name, es)) (entries_at 0 to count (10 + n) bytes)
    else None

-- the field and the entries of bytes that are an index of blocks up to this place
unfoldable pub index_in : ℕ → List ℕ → Option (List ℕ × List Entry)
index_in to bytes =
    if has_magic 0 bytes then named_at to (u16_at 4 bytes) (u32_at (6 + u16_at 4 bytes) bytes) bytes else None

-- how long an index can be
abbrev pub can_be_index : ℕ → Bool
can_be_index n = nat_le LEAST_INDEX_BYTES n && nat_le n MOST_INDEX_BYTES

-- How many bytes lie between the start that a tail names and the tail, which stands at this place. None where no index can lie there.
unfoldable pub gap_in : ℕ → List ℕ → Option ℕ
gap_in at tail =
    if has_magic 8 tail && can_be_index (at - u64_at 0 tail) then Some (at - u64_at 0 tail) else None

-- the index between a start and the tail, which stands at this place
unfoldable pub index_before : ℕ → List ℕ → ℕ → Option (List ℕ × List Entry)
index_before at bytes gap = index_in (at - gap) (take gap (drop (at - gap) bytes))

-- the field and the entries of bytes that are a block file
unfoldable pub file_in : List ℕ → Option (List ℕ × List Entry)
file_in bytes =
    let at = length bytes - 12 in option_and_then (index_before at bytes) (gap_in at (drop at bytes))

-- How many bytes a reader of an index has to read: the tail, and the index where one can lie there. Of an absent file it reads none.
unfoldable pub index_cost : Option (List ℕ) → ℕ
index_cost None = 0
index_cost (Some bytes) = 12 + gap_or_none (gap_in (length bytes - 12) (drop (length bytes - 12) bytes))
  where
    gap_or_none : Option ℕ → ℕ
    gap_or_none None = 0
    gap_or_none (Some gap) = gap
