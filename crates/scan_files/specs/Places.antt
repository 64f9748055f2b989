-- Places of blocks in the named files.
use Rattle.std.specs.Prelude.{◌≡◌, ◌+◌, ◌≤◌, ℕ, List, [], length, map, slice_get, Option, IsSomeAnd, unwrap_or, sum_by}
use Rattle.std.specs.Option.{option_and_then}
use Rattle.snel_device.specs.Contents.{Contents}
use Rattle.scan_meaning.specs.Blocks.{Place, Block, block_of}

-- bytes that were read, and the place where they stand
pub record Held : Type 0 where
  pub place : Place
  pub bytes : List ℕ

-- the field of the file with this number; a file without an indexed field has the empty name
abbrev pub field_at : List (List ℕ) → ℕ → List ℕ
field_at fields i = unwrap_or (slice_get fields i) []

-- the block that was read, in files that index these fields
abbrev pub block_held : List (List ℕ) → Held → Block
block_held fields h = record { place = h.place; field = field_at fields h.place.file; bytes = h.bytes }

abbrev pub blocks_held : List (List ℕ) → List Held → List Block
blocks_held fields hs = map (block_held fields) hs

-- the bytes of the file with this number
abbrev pub file_at : Contents → List (List ℕ) → ℕ → Option (List ℕ)
file_at files names i = option_and_then files (slice_get names i)

-- the block at a place
unfoldable pub block_at : Contents → List (List ℕ) → List (List ℕ) → Place → Block
block_at files names fields p = block_of (unwrap_or (file_at files names p.file) []) (field_at fields p.file) p

abbrev pub blocks_at : Contents → List (List ℕ) → List (List ℕ) → List Place → List Block
blocks_at files names fields ps = map (block_at files names fields) ps

-- the block lies within its file
unfoldable pub IsPlaced : Contents → List (List ℕ) → Place → Type 0
IsPlaced files names p = IsSomeAnd (file_at files names p.file) (λ bytes. p.entry.start + p.entry.length ≤ length bytes)

-- the bytes of the blocks at these places
abbrev pub room_of : List Place → ℕ
room_of ps = sum_by (λ p. p.entry.length) ps
