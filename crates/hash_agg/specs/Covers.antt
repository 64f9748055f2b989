-- When an index covers the first entries of groups: each is found by its hash.
use Rattle.std.specs.Prelude.{◌≡◌, ℕ, ◌<◌, ◌≤◌, false, List, length, slice_index_or}
use Rattle.value_meaning.specs.Val.{Val}
use Rattle.agg_meaning.specs.Keys.{same_keys}
use Rattle.key_places.specs.declared.row.PlaceRow.{PlaceRow}
use Rattle.key_places.specs.Placed.{AreReached, Holds, tag_of}
use Rattle.key_places.specs.Hashes.{hash_of}
use Rattle.hash_agg.specs.Groups.{Entry}
use Rattle.hash_agg.specs.declared.index.Index.{Index}

-- so many entries as there are hashes have these hashes, and are found by them
pub record Covers (x : Index) (entries : List Entry) : Type 0 where
  pub few : length x.hashes.items ≤ length entries
  pub hashed : (i d : ℕ) (e : Entry) → i < length x.hashes.items
      → slice_index_or x.hashes.items i d ≡ hash_of x.seed (slice_index_or entries i e).0
  pub reached : AreReached x.rows.items x.hashes.items

-- the entry at a place hasn't these keys, as far as it has their hash
abbrev pub IsNotAt : ℕ → List ℕ → List Val → List Entry → ℕ → Type 0
IsNotAt hash hashes keys entries i =
    i < length hashes → (d : ℕ) → slice_index_or hashes i d ≡ hash
    → (e : Entry) → same_keys keys (slice_index_or entries i e).0 ≡ false

-- no number of the row is that of an entry with these keys
abbrev pub HasNone : ℕ → List ℕ → List Val → List Entry → PlaceRow → Type 0
HasNone hash hashes keys entries row = (i : ℕ) → Holds row (tag_of hash) i → IsNotAt hash hashes keys entries i
