-- Rows of tagged places, and the row in which a number is found by its hash.
use Rattle.std.specs.Prelude.{◌≡◌, ℕ, ◌+◌, ◌<◌, ◌/◌, ◌%◌, ◌^◌, List, length, slice_index_or}
use Rattle.key_places.specs.declared.row.PlaceRow.{PlaceRow}

-- the tag of a hash of 64 bits, from its highest bits
abbrev pub tag_of : ℕ → ℕ
tag_of hash = 128 + hash / 2 ^ 57

-- the row after so many steps of a search, from the hash's own row on
abbrev pub row_at : ℕ → ℕ → ℕ → ℕ
row_at hash count step = (hash % count + step) % count

-- no place is free
abbrev pub IsFull : PlaceRow → Type 0
IsFull row = (p : ℕ) → p < 16 → slice_index_or row.tags p 0 ≡ 0 → ⊥

-- one place of the row has this number under this tag
pub record Holds (row : PlaceRow) (tag number : ℕ) : Type 0 where
  pub place : ℕ
  pub within : place < 16
  pub tagged : slice_index_or row.tags place 0 ≡ tag
  pub numbered : slice_index_or row.numbers place 0 ≡ number

-- the new row differs from the old one in one place, which has this number under this tag
pub record IsPlaced (old : PlaceRow) (place tag number : ℕ) (new : PlaceRow) : Type 0 where
  pub tagged : slice_index_or new.tags place 0 ≡ tag
  pub numbered : slice_index_or new.numbers place 0 ≡ number
  pub tags : (p : ℕ) → (p ≡ place → ⊥) → slice_index_or new.tags p 0 ≡ slice_index_or old.tags p 0
  pub numbers : (p : ℕ) → (p ≡ place → ⊥) → slice_index_or new.numbers p 0 ≡ slice_index_or old.numbers p 0

-- a search for the hash comes to the number after rows that are full
pub record IsReached (rows : List PlaceRow) (hash number : ℕ) : Type 0 where
  pub step : ℕ
  pub within : step < length rows
  pub full : (t : ℕ) (r : PlaceRow) → t < step → IsFull (slice_index_or rows (row_at hash (length rows) t) r)
  pub held : (r : PlaceRow) → Holds (slice_index_or rows (row_at hash (length rows) step) r) (tag_of hash) number

-- each hash is found under its place in the list
abbrev pub AreReached : List PlaceRow → List ℕ → Type 0
AreReached rows hashes = (i d : ℕ) → i < length hashes → IsReached rows (slice_index_or hashes i d) i
