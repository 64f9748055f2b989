-- What is written for rows is their block.
use Rattle.std.proofs.Common.{◌≡◌, ℕ, ◌+◌, ◌*◌, ◌^◌, ◌<◌, ◌≤◌, List, [], ◌∷◌, ◌++◌, length, sum_by, refl, sym, ap, ◌∙◌, arith}
use Rattle.std.proofs.lemmas.List.{length-append}
use Rattle.std.proofs.lemmas.List.Sums.{sum_by-cons}
use Rattle.value_meaning.specs.Val.{Val, vals}
use Rattle.block_meaning.specs.Numbers.{IsVarUInt}
use Rattle.block_meaning.specs.Tables.{Table, TextsRise}
use Rattle.block_meaning.specs.Cells.{HasPayload}
use Rattle.block_meaning.specs.Blocks.{marker, AreTexts, IsTable, IsBlock}
use Rattle.write_meaning.specs.Weights.{weight, weights}
use Rattle.write_meaning.specs.Encoding.{var_uint_bytes, cell_bytes, head_bytes, encode_items}
use Rattle.write_meaning.specs.BlockBytes.{texts_bytes, listing_bytes, content_bytes, table_bytes, block_bytes, AreTextual, MayBeBlock}
use Rattle.write_meaning.specs.Laws.{BlocksAreWritten}
use Rattle.write_meaning.proofs.Digits.{var_uint_some, var_uint_spelled, one_byte}
use Rattle.write_meaning.proofs.Heads.{head_some, cell_stands, cell_length}
use Rattle.write_meaning.proofs.Encoded.{items_are_cells}

cell_over : (t : ℕ) (payload : List ℕ) → length payload < length (cell_bytes t payload)
cell_over t payload = omega (arith, cell_length t payload, head_some t (length payload))

texts_count : (table : Table) → length table ≤ length (texts_bytes table)
texts_count [] = omega arith
texts_count (t ∷ ts) = omega (arith, texts_count ts, length-append (cell_bytes 8 t) (texts_bytes ts), cell_over 8 t)

texts_stand : (table : Table) → AreTextual table → length (texts_bytes table) ≤ 2 ^ 20 → AreTexts table (texts_bytes table)
texts_stand [] u h = refl
texts_stand (t ∷ ts) u h =
    let parts = length-append (cell_bytes 8 t) (texts_bytes ts) in
    let over = cell_over 8 t in
    (cell_bytes 8 t, texts_bytes ts, refl, cell_stands 8 t (omega arith) (λ j k. omega (arith, j, k)), u.0, texts_stand ts u.1 (omega arith))

listing_length : (table : Table) → length (listing_bytes table) ≡ length (var_uint_bytes 7) + length (cell_bytes 11 (texts_bytes table))
unfolding listing_bytes
listing_length table = length-append (var_uint_bytes 7) (cell_bytes 11 (texts_bytes table))

content_length : (table : Table) → length (cell_bytes 13 (listing_bytes table)) ≤ length (content_bytes table)
unfolding content_bytes
content_length table = omega (arith, length-append (var_uint_bytes 1) (var_uint_bytes 3 ++ cell_bytes 13 (listing_bytes table)), length-append (var_uint_bytes 3) (cell_bytes 13 (listing_bytes table)))

table_length : (table : Table) → length (content_bytes table) < length (table_bytes table)
unfolding table_bytes
table_length table = cell_over 14 (content_bytes table)

-- each part of a table is shorter than the table
sizes : (table : Table) → length (table_bytes table) ≤ 2 ^ 20 → (length (content_bytes table) ≤ 2 ^ 20) × (length (listing_bytes table) ≤ 2 ^ 20) × (length (texts_bytes table) ≤ 2 ^ 20) × (2 ≤ length (listing_bytes table))
sizes table h =
    let a = table_length table in
    let b = content_length table in
    let c = listing_length table in
    let d = cell_over 13 (listing_bytes table) in
    let e = cell_over 11 (texts_bytes table) in
    let f = var_uint_some 7 in
    (omega arith, omega arith, omega arith, omega arith)

table_stands : (table : Table) → TextsRise table → AreTextual table → length (table_bytes table) ≤ 2 ^ 20 → IsTable table (table_bytes table)
unfolding table_bytes content_bytes listing_bytes
table_stands table rise textual h =
    let s = sizes table h in
    record {
      content = content_bytes table;
      outer = cell_stands 14 (content_bytes table) (omega (arith, s.0)) (λ j k. omega (arith, j, k));
      count = var_uint_bytes 1;
      annotation = var_uint_bytes 3;
      cell = cell_bytes 13 (listing_bytes table);
      parts = refl;
      counts = rw (one_byte 3 (omega arith)) (var_uint_spelled 1 (omega arith));
      annotates = var_uint_spelled 3 (omega arith);
      pair = listing_bytes table;
      holds = cell_stands 13 (listing_bytes table) (omega (arith, s.1)) (λ j k. omega (arith, j, k, s.3));
      label = var_uint_bytes 7;
      listed = cell_bytes 11 (texts_bytes table);
      pair_parts = refl;
      labels = var_uint_spelled 7 (omega arith);
      texts = texts_bytes table;
      lists = cell_stands 11 (texts_bytes table) (omega (arith, s.2)) (λ j k. omega (arith, j, k));
      stand = texts_stand table textual s.2;
      rise = rise;
    }

pub weights_are : (rows : List Val) → weights (vals rows) ≡ sum_by weight rows
weights_are [] = refl
weights_are (r ∷ rs) = ap (λ n. weight r + n) (weights_are rs) ∙ sym (sum_by-cons weight r rs)

table_within : (table : Table) (rows : List Val) → length (table_bytes table) ≤ length (block_bytes table rows)
unfolding block_bytes
table_within table rows = omega (arith, length-append marker (table_bytes table ++ encode_items table (vals rows)), length-append (table_bytes table) (encode_items table (vals rows)))

written : (table : Table) (rows : List Val) → MayBeBlock table rows → length (table_bytes table) ≤ 2 ^ 20 → length table ≤ 2 ^ 20 → IsBlock table rows (block_bytes table rows)
unfolding block_bytes
written table rows h small few = record {
  short = h.short;
  some = h.some;
  few = h.few;
  structs = h.structs;
  table_bytes = table_bytes table;
  row_bytes = encode_items table (vals rows);
  parts = refl;
  is_table = table_stands table h.rise h.textual small;
  cells = items_are_cells table 0 (vals rows) h.rise (omega (arith, few)) h.sound h.writable h.names (omega (arith, h.light, weights_are rows));
}

pub blocks_are_written : BlocksAreWritten
blocks_are_written table rows h =
    let small : length (table_bytes table) ≤ 2 ^ 20 = omega (arith, h.short, table_within table rows) in
    let few : length table ≤ 2 ^ 20 = omega (arith, texts_count table, (sizes table small).2) in
    written table rows h small few
