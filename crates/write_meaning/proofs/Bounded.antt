-- Blocks are hardly heavier than their rows, and rows that are light enough have a block.
use Rattle.std.proofs.Common.{◌≡◌, ◌⊎◌, ℕ, suc, ◌+◌, ◌^◌, ◌<◌, ◌≤◌, Bool, true, false, cond, List, [], ◌∷◌, ◌++◌, length, bytes_eq, refl, sym, ap, ◌∙◌, arith, inl, inr}
use Rattle.std.specs.Prelude.{count_by, sum_by}
use Rattle.std.specs.Str.{IsUtf8}
use Rattle.std.proofs.lemmas.List.{length-append}
use Rattle.std.proofs.lemmas.List.Sums.{sum_by-cons}
use Rattle.std.proofs.lemmas.Slice.Eq.{bytes_eq-Decides}
use Rattle.value_meaning.specs.Val.{Val, Vals, Fields, missing, null, truth, int, time, text, list, struct, no_vals, val, no_fields, field, vals}
use Rattle.value_meaning.specs.Sound.{IsSound, AreSound, HasSoundFields}
use Rattle.block_meaning.specs.Tables.{Table, TextsRise}
use Rattle.block_meaning.specs.Blocks.{marker, AreRows}
use Rattle.write_meaning.specs.Weights.{weight, weights}
use Rattle.write_meaning.specs.Encoding.{var_uint_bytes, cell_bytes, encode_items}
use Rattle.write_meaning.specs.Standing.{IsWritable, AreWritable, IsWritableRow, AreWritableRows, HasNames, HaveNames, PairsHaveNames}
use Rattle.write_meaning.specs.BlockBytes.{texts_bytes, listing_bytes, content_bytes, table_bytes, block_bytes, AreTextual, MayBeBlock}
use Rattle.write_meaning.specs.BlockTables.{names, item_names, pair_names, texts, item_texts, pair_texts, IsAmong, IsRepeated, IsTableOf}
use Rattle.write_meaning.specs.Laws.{BlocksAreLight, RowsMayBeBlocks}
use Rattle.write_meaning.proofs.Digits.{one_byte}
use Rattle.write_meaning.proofs.Encoded.{any_cell}
use Rattle.write_meaning.proofs.Blocks.{weights_are}
use Rattle.write_meaning.proofs.Paying.{paid_for, numbered}

listing_light : (table : Table) → length (listing_bytes table) ≤ 6 + length (texts_bytes table)
unfolding listing_bytes
listing_light table =
    omega (arith, length-append (var_uint_bytes 7) (cell_bytes 11 (texts_bytes table)), one_byte 7 (omega arith), any_cell 11 (texts_bytes table))

content_light : (table : Table) → length (content_bytes table) ≤ 13 + length (texts_bytes table)
unfolding content_bytes
content_light table =
    omega (arith, length-append (var_uint_bytes 1) (var_uint_bytes 3 ++ cell_bytes 13 (listing_bytes table)), length-append (var_uint_bytes 3) (cell_bytes 13 (listing_bytes table)), one_byte 1 (omega arith), one_byte 3 (omega arith), any_cell 13 (listing_bytes table), listing_light table)

table_light : (table : Table) → length (table_bytes table) ≤ 18 + length (texts_bytes table)
unfolding table_bytes
table_light table = omega (arith, any_cell 14 (content_bytes table), content_light table)

block_length : (table : Table) (rows : List Val) → length (block_bytes table rows) ≡ 4 + (length (table_bytes table) + length (encode_items table (vals rows)))
unfolding block_bytes
block_length table rows =
    omega (arith, length-append marker (table_bytes table ++ encode_items table (vals rows)), length-append (table_bytes table) (encode_items table (vals rows)))

pub blocks_are_light : BlocksAreLight
blocks_are_light table rows h =
    omega (arith, block_length table rows, table_light table, paid_for table (vals rows) h, weights_are rows)

-- ---- the names and texts of sound values are UTF-8

AreUtf8 : List (List ℕ) → Type 0
AreUtf8 ss = (s : List ℕ) → IsAmong s ss → IsUtf8 s

pub either : (a b : List (List ℕ)) (s : List ℕ) → IsAmong s (a ++ b) → IsAmong s a ⊎ IsAmong s b
either [] b s h = inr h
either (t ∷ ts) b s (inl e) = inl (inl e)
either (t ∷ ts) b s (inr h) = at (either ts b s h)
  where
    at : IsAmong s ts ⊎ IsAmong s b → IsAmong s (t ∷ ts) ⊎ IsAmong s b
    at (inl k) = inl (inr k)
    at (inr k) = inr k

pub in_first : (a b : List (List ℕ)) (s : List ℕ) → IsAmong s a → IsAmong s (a ++ b)
in_first [] b s h = absurd h
in_first (t ∷ ts) b s (inl e) = inl e
in_first (t ∷ ts) b s (inr h) = inr (in_first ts b s h)

pub in_second : (a b : List (List ℕ)) (s : List ℕ) → IsAmong s b → IsAmong s (a ++ b)
in_second [] b s h = h
in_second (t ∷ ts) b s h = inr (in_second ts b s h)

both_utf8 : (a b : List (List ℕ)) → AreUtf8 a → AreUtf8 b → AreUtf8 (a ++ b)
unfolding AreUtf8
both_utf8 a b f g s h = at (either a b s h)
  where
    at : IsAmong s a ⊎ IsAmong s b → IsUtf8 s
    at (inl k) = f s k
    at (inr k) = g s k

none_utf8 : AreUtf8 []
unfolding AreUtf8
none_utf8 s h = absurd h

one_utf8 : (t : List ℕ) (ts : List (List ℕ)) → IsUtf8 t → AreUtf8 ts → AreUtf8 (t ∷ ts)
unfolding AreUtf8
one_utf8 t ts u f s (inl e) = rw e u
one_utf8 t ts u f s (inr h) = f s h

mutual
  names_utf8 : (v : Val) → IsSound v → AreUtf8 (names v)
  names_utf8 missing h = none_utf8
  names_utf8 null h = none_utf8
  names_utf8 (truth b) h = none_utf8
  names_utf8 (int n) h = none_utf8
  names_utf8 (time t) h = none_utf8
  names_utf8 (text s) h = none_utf8
  names_utf8 (list vs) h = item_names_utf8 vs h
  names_utf8 (struct fs) h = pair_names_utf8 fs h

  item_names_utf8 : (vs : Vals) → AreSound vs → AreUtf8 (item_names vs)
  item_names_utf8 no_vals h = none_utf8
  item_names_utf8 (val v vs) h = both_utf8 (names v) (item_names vs) (names_utf8 v h.0) (item_names_utf8 vs h.1)

  pair_names_utf8 : (fs : Fields) → HasSoundFields fs → AreUtf8 (pair_names fs)
  pair_names_utf8 no_fields h = none_utf8
  pair_names_utf8 (field n v fs) h =
      one_utf8 n (names v ++ pair_names fs) h.0 (both_utf8 (names v) (pair_names fs) (names_utf8 v h.2) (pair_names_utf8 fs h.3))

mutual
  texts_utf8 : (v : Val) → IsSound v → AreUtf8 (texts v)
  texts_utf8 missing h = none_utf8
  texts_utf8 null h = none_utf8
  texts_utf8 (truth b) h = none_utf8
  texts_utf8 (int n) h = none_utf8
  texts_utf8 (time t) h = none_utf8
  texts_utf8 (text s) h = one_utf8 s [] h none_utf8
  texts_utf8 (list vs) h = item_texts_utf8 vs h
  texts_utf8 (struct fs) h = pair_texts_utf8 fs h

  item_texts_utf8 : (vs : Vals) → AreSound vs → AreUtf8 (item_texts vs)
  item_texts_utf8 no_vals h = none_utf8
  item_texts_utf8 (val v vs) h = both_utf8 (texts v) (item_texts vs) (texts_utf8 v h.0) (item_texts_utf8 vs h.1)

  pair_texts_utf8 : (fs : Fields) → HasSoundFields fs → AreUtf8 (pair_texts fs)
  pair_texts_utf8 no_fields h = none_utf8
  pair_texts_utf8 (field n v fs) h = both_utf8 (texts v) (pair_texts fs) (texts_utf8 v h.2) (pair_texts_utf8 fs h.3)

-- what is counted is there
pub counted : (s : List ℕ) (ss : List (List ℕ)) → 1 ≤ count_by (λ t. bytes_eq t s) ss → IsAmong s ss
counted s [] h = absurd (omega (arith, h))
counted s (t ∷ ts) h = at (bytes_eq t s) refl (λ k. counted s ts k)
  where
    at : (b : Bool) → bytes_eq t s ≡ b → (1 ≤ count_by (λ u. bytes_eq u s) ts → IsAmong s ts) → IsAmong s (t ∷ ts)
    at true e later = inl (sym ((bytes_eq-Decides t s).0 e))
    at false e later =
        let more : count_by (λ u. bytes_eq u s) (t ∷ ts) ≡ cond false 1 0 + count_by (λ u. bytes_eq u s) ts = sum_by-cons (λ u. cond (bytes_eq u s) 1 0) t ts ∙ ap (λ b. cond b 1 0 + count_by (λ u. bytes_eq u s) ts) e in
        inr (later (omega (arith, more, h)))

textual : (table : Table) → AreUtf8 table → AreTextual table
unfolding AreUtf8
textual [] f = tt
textual (t ∷ ts) f = (f t (inl refl), textual ts (λ s h. f s (inr h)))

table_utf8 : (rows : Vals) (table : Table) → AreSound rows → IsTableOf rows table → AreUtf8 table
unfolding AreUtf8
table_utf8 rows table sound h s among = at ((h.each s).0 among)
  where
    at : IsAmong s (item_names rows) ⊎ IsRepeated rows s → IsUtf8 s
    at (inl k) = item_names_utf8 rows sound s k
    at (inr k) = item_texts_utf8 rows sound s (counted s (item_texts rows) (omega (arith, k.twice)))

-- ---- a table has the names

Holds : Table → List (List ℕ) → Type 0
Holds table ns = (s : List ℕ) → IsAmong s ns → IsAmong s table

holds_first : (table : Table) (a b : List (List ℕ)) → Holds table (a ++ b) → Holds table a
unfolding Holds
holds_first table a b f s h = f s (in_first a b s h)

holds_second : (table : Table) (a b : List (List ℕ)) → Holds table (a ++ b) → Holds table b
unfolding Holds
holds_second table a b f s h = f s (in_second a b s h)

holds_tail : (table : Table) (n : List ℕ) (ns : List (List ℕ)) → Holds table (n ∷ ns) → Holds table ns
unfolding Holds
holds_tail table n ns f s h = f s (inr h)

holds_head : (table : Table) (n : List ℕ) (ns : List (List ℕ)) → Holds table (n ∷ ns) → IsAmong n table
unfolding Holds
holds_head table n ns f = f n (inl refl)

module _ (table : Table) where
  mutual
    have : (v : Val) → Holds table (names v) → HasNames table v
    have missing f = tt
    have null f = tt
    have (truth b) f = tt
    have (int n) f = tt
    have (time t) f = tt
    have (text s) f = tt
    have (list vs) f = items_have vs f
    have (struct fs) f = pairs_have fs f

    items_have : (vs : Vals) → Holds table (item_names vs) → HaveNames table vs
    items_have no_vals f = tt
    items_have (val v vs) f =
        (have v (holds_first table (names v) (item_names vs) f), items_have vs (holds_second table (names v) (item_names vs) f))

    pairs_have : (fs : Fields) → Holds table (pair_names fs) → PairsHaveNames table fs
    pairs_have no_fields f = tt
    pairs_have (field n v fs) f =
        let rest = holds_tail table n (names v ++ pair_names fs) f in
        (numbered table n (holds_head table n (names v ++ pair_names fs) f), have v (holds_first table (names v) (pair_names fs) rest), pairs_have fs (holds_second table (names v) (pair_names fs) rest))

table_holds : (rows : Vals) (table : Table) → IsTableOf rows table → Holds table (item_names rows)
unfolding Holds
table_holds rows table h s k = (h.each s).1 (inl k)

rows_structs : (rows : List Val) → AreWritableRows rows → AreRows rows
unfolding IsWritableRow
rows_structs [] h = tt
rows_structs (r ∷ rs) h = (h.0.0, rows_structs rs h.1)

rows_writable : (rows : List Val) → AreWritableRows rows → AreWritable 0 (vals rows)
unfolding IsWritableRow
rows_writable [] h = tt
rows_writable (r ∷ rs) h = (h.0.1, rows_writable rs h.1)

pub rows_may_be_blocks : RowsMayBeBlocks
rows_may_be_blocks table rows h some few sound writable light = record {
  rise = h.rise;
  textual = textual table (table_utf8 (vals rows) table sound h);
  some = some;
  few = few;
  structs = rows_structs rows writable;
  sound = sound;
  writable = rows_writable rows writable;
  names = items_have table (vals rows) (table_holds (vals rows) table h);
  light = light;
  short = omega (arith, blocks_are_light table rows h);
}
