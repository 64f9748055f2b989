-- The file of rows is a block file of just these rows.
use Rattle.std.proofs.Common.{◌≡◌, ℕ, ◌+◌, ◌^◌, ◌≤◌, List, [], ◌∷◌, ◌++◌, length, take, drop, sum_by, Option, Some, None, IsTrue, inl, refl, sym, ap, subst, ◌∙◌, arith, append_assoc}
use Rattle.std.specs.Prelude.{flat_map, unwrap_or}
use Rattle.std.proofs.Math.Seq.{drop-append_seam}
use Rattle.std.proofs.lemmas.List.{length-append}
use Rattle.value_meaning.specs.Val.{Val, vals}
use Rattle.value_meaning.specs.Sound.{AreSound}
use Rattle.block_meaning.specs.Tables.{Table}
use Rattle.block_meaning.specs.Blocks.{marker, IsBlock}
use Rattle.file_meaning.specs.Files.{Entry, IsEntry, IsIndex, IsFile, StandEndToEnd, AreFileRows, bytes_at, index_bytes, tail_bytes}
use Rattle.write_meaning.specs.Weights.{weight}
use Rattle.write_meaning.specs.Encoding.{encode_items}
use Rattle.write_meaning.specs.BlockBytes.{block_bytes, table_bytes}
use Rattle.write_meaning.specs.Standing.{AreWritableRows}
use Rattle.write_meaning.proofs.Blocks.{blocks_are_written}
use Rattle.write_meaning.proofs.Bounded.{blocks_are_light, rows_may_be_blocks}
use Rattle.pack_meaning.specs.Cuts.{Rows, AreCut, cut, fits}
use Rattle.pack_meaning.specs.PackedFiles.{table_of, block_of, entry_of, entries_of, field_name, times_in, index_of, file_of, MayBePacked, AreSoundEntries, HoldsRows}
use Rattle.pack_meaning.specs.Laws.{FilesHoldRows}
use Rattle.pack_meaning.proofs.Cutting.{cuts_made, fits_weight, fits_length}
use Rattle.pack_meaning.proofs.OwnTimes.{are_times, least_fits, greatest_fits, sound_entry}
use Rattle.pack_meaning.proofs.Tables.{table_is_of}

-- The rows may be a block of a file.
pub record IsPart (most : ℕ) (rows : Rows) : Type 0 where
  pub some : 1 ≤ length rows
  pub few : length rows ≤ 65_536
  pub light : sum_by weight rows ≤ most
  pub sound : AreSound (vals rows)
  pub writable : AreWritableRows rows

abbrev pub AreParts : ℕ → List Rows → Type 0
AreParts most [] = Unit {0}
AreParts most (b ∷ bs) = IsPart most b × AreParts most bs

sound_split : (a b : Rows) → AreSound (vals (a ++ b)) → AreSound (vals a) × AreSound (vals b)
sound_split [] b h = (tt, h)
sound_split (v ∷ a) b h = let rest = sound_split a b h.1 in ((h.0, rest.0), rest.1)

writable_split : (a b : Rows) → AreWritableRows (a ++ b) → AreWritableRows a × AreWritableRows b
writable_split [] b h = (tt, h)
writable_split (v ∷ a) b h = let rest = writable_split a b h.1 in ((h.0, rest.0), rest.1)

-- the blocks of a cut may be blocks of a file
pub parts : (most : ℕ) (blocks : List Rows) (rows : Rows) → AreCut most blocks rows → AreSound (vals rows) → AreWritableRows rows → AreParts most blocks
parts most [] rows c s w = tt
parts most (b ∷ bs) rows c s w =
    let rest = c.0 in
    let ss = sound_split b rest (subst (λ rs. AreSound (vals rs)) c.1 s) in
    let ws = writable_split b rest (subst AreWritableRows c.1 w) in
    (record { some = c.2; few = fits_length most b c.3; light = fits_weight most b c.3; sound = ss.0; writable = ws.0 }, parts most bs rest c.5 ss.1 ws.1)

-- what is written for the rows is their block
pub block_is : (most : ℕ) (rows : Rows) → most ≤ 1_000_000 → IsPart most rows → IsBlock (table_of rows) rows (block_of rows)
unfolding block_of
block_is most rows low p =
    blocks_are_written (table_of rows) rows (rows_may_be_blocks (table_of rows) rows (table_is_of rows) p.some p.few p.sound p.writable (omega (arith, p.light, low)))

pub block_short : (most : ℕ) (rows : Rows) → most ≤ 1_000_000 → IsPart most rows → length (block_of rows) ≤ 1_000_032
unfolding block_of
block_short most rows low p = omega (arith, blocks_are_light (table_of rows) rows (table_is_of rows), p.light, low)

block_some : (rows : Rows) → 1 ≤ length (block_of rows)
unfolding block_of block_bytes
block_some rows = omega (arith, length-append marker (table_bytes (table_of rows) ++ encode_items (table_of rows) (vals rows)))

is_entry : (tf : Option (List ℕ)) (most start : ℕ) (rows : Rows) → most ≤ 1_000_000 → IsPart most rows → IsEntry (entry_of tf start rows)
is_entry tf most start rows low p = record {
  some_bytes = block_some rows;
  few_bytes = omega (arith, block_short most rows low p);
  some_rows = p.some;
  few_rows = p.few;
  least = least_fits _ (are_times tf rows p.writable);
  greatest = greatest_fits _ (are_times tf rows p.writable);
}

-- the blocks stand end to end
pub stand : (tf : Option (List ℕ)) (most start : ℕ) (blocks : List Rows) → most ≤ 1_000_000 → AreParts most blocks
    → StandEndToEnd start (entries_of tf start blocks) (start + length (flat_map block_of blocks))
stand tf most start [] low p = omega arith
stand tf most start (b ∷ bs) low p =
    let all : (start + length (block_of b)) + length (flat_map block_of bs) ≡ start + length (flat_map block_of (b ∷ bs)) =
    omega (arith, length-append (block_of b) (flat_map block_of bs)) in
    let later = stand tf most (start + length (block_of b)) bs low p.1 in
    (refl, is_entry tf most start b low p.0, subst (StandEndToEnd (start + length (block_of b)) (entries_of tf (start + length (block_of b)) bs)) all later)

front : (a b : List ℕ) → take (length a) (a ++ b) ≡ a
front [] b = refl
front (x ∷ a) b = ap (λ l. x ∷ l) (front a b)

-- the bytes that an entry names
here : (tf : Option (List ℕ)) (start : ℕ) (b : Rows) (before more bytes : List ℕ) → start ≡ length before → bytes ≡ before ++ (block_of b ++ more)
    → bytes_at (entry_of tf start b) bytes ≡ block_of b
here tf start b before more bytes at is =
    ap (take (length (block_of b))) (rw (at, is) (drop-append_seam before (block_of b ++ more))) ∙ front (block_of b) more

next_start : (start : ℕ) (before block : List ℕ) → start ≡ length before → start + length block ≡ length (before ++ block)
next_start start before block e = omega (arith, e, length-append before block)

shifted : (b : Rows) (bs : List Rows) (before after bytes : List ℕ) → bytes ≡ before ++ (flat_map block_of (b ∷ bs) ++ after)
    → bytes ≡ before ++ (block_of b ++ (flat_map block_of bs ++ after))
shifted b bs before after bytes e = e ∙ ap (λ l. before ++ l) (append_assoc (block_of b) (flat_map block_of bs) after)

passed_on : (b : Rows) (bs : List Rows) (before after bytes : List ℕ) → bytes ≡ before ++ (block_of b ++ (flat_map block_of bs ++ after))
    → bytes ≡ (before ++ block_of b) ++ (flat_map block_of bs ++ after)
passed_on b bs before after bytes e = e ∙ sym (append_assoc before (block_of b) (flat_map block_of bs ++ after))

-- the rows of the file are those of the blocks
held : (tf : Option (List ℕ)) (most start : ℕ) (blocks : List Rows) (rows : Rows) (before after bytes : List ℕ) → most ≤ 1_000_000 → AreCut most blocks rows → AreParts most blocks
    → start ≡ length before → bytes ≡ before ++ (flat_map block_of blocks ++ after) → AreFileRows (entries_of tf start blocks) bytes rows
held tf most start [] rows before after bytes low c p at is = c
held tf most start (b ∷ bs) rows before after bytes low c p at is =
    let split = shifted b bs before after bytes is in
    let block : IsBlock (table_of b) b (bytes_at (entry_of tf start b) bytes) =
    subst (IsBlock (table_of b) b) (sym (here tf start b before (flat_map block_of bs ++ after) bytes at split)) (block_is most b low p.0) in (
      b,
      c.0,
      c.1,
      inl (table_of b, block, refl),
      held tf most (start + length (block_of b)) bs c.0 (before ++ block_of b) after bytes low c.5 p.1 (next_start start before (block_of b) at) (passed_on b bs before after bytes split),
    )

-- each entry is sound
sound : (tf : Option (List ℕ)) (most start : ℕ) (blocks : List Rows) (before after bytes : List ℕ) → most ≤ 1_000_000 → AreParts most blocks
    → start ≡ length before → bytes ≡ before ++ (flat_map block_of blocks ++ after) → AreSoundEntries (field_name tf) (entries_of tf start blocks) bytes
sound tf most start [] before after bytes low p at is = tt
sound tf most start (b ∷ bs) before after bytes low p at is =
    let split = shifted b bs before after bytes is in
    let block : IsBlock (table_of b) b (bytes_at (entry_of tf start b) bytes) =
    subst (IsBlock (table_of b) b) (sym (here tf start b before (flat_map block_of bs ++ after) bytes at split)) (block_is most b low p.0) in (
      (table_of b, b, block, refl, sound_entry tf (entry_of tf start b) b refl refl),
      sound tf most (start + length (block_of b)) bs (before ++ block_of b) after bytes low p.1 (next_start start before (block_of b) at) (passed_on b bs before after bytes split),
    )

pub entries_count : (tf : Option (List ℕ)) (start : ℕ) (blocks : List Rows) → length (entries_of tf start blocks) ≡ length blocks
entries_count tf start [] = refl
entries_count tf start (b ∷ bs) = omega (arith, entries_count tf (start + length (block_of b)) bs)

-- the blocks and the index of parts are a block file of their rows
pub blocks_hold : (tf : Option (List ℕ)) (most : ℕ) (rows : Rows) → MayBePacked tf most rows → (blocks : List Rows) → blocks ≡ cut most rows
    → HoldsRows (field_name tf) (flat_map block_of blocks ++ index_of tf blocks) rows
unfolding index_of
blocks_hold tf most rows h blocks e =
    let c : AreCut most blocks rows = (cuts_made most rows blocks h.fit).0 (sym e) in
    let p = parts most blocks rows c h.sound h.writable in
    record {
      entries = entries_of tf 0 blocks;
      file = record {
        blocks = flat_map block_of blocks;
        parts = refl;
        index = record {
          short_name = h.short_name;
          name = h.name;
          few = omega (arith, entries_count tf 0 blocks, h.few, ap length e);
          stand = subst (StandEndToEnd 0 (entries_of tf 0 blocks)) (omega arith) (stand tf most 0 blocks h.low p);
        };
      };
      held = held tf most 0 blocks rows [] _ _ h.low c p refl refl;
      sound = sound tf most 0 blocks [] _ _ h.low p refl refl;
    }

pub files_hold : FilesHoldRows
unfolding file_of
files_hold tf most rows h = blocks_hold tf most rows h (cut most rows) refl
