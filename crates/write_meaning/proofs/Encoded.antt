-- What is written for a value is its cell, and is no longer than the value's weight.
use Rattle.std.proofs.Common.{◌≡◌, ℕ, suc, ◌+◌, ◌*◌, ◌^◌, ◌<◌, ◌≤◌, Bool, true, false, ltb, ℤ, pos, negsuc, List, [], ◌∷◌, ◌++◌, length, Option, Some, None, Contains, refl, sym, ap, ◌∙◌, arith, inl, inr}
use Rattle.std.proofs.lemmas.Bool.{lt-ltb}
use Rattle.std.proofs.lemmas.List.{length-append}
use Rattle.std.specs.Str.{IsUtf8}
use Rattle.time_meaning.specs.Moments.{is_time}
use Rattle.value_meaning.specs.Val.{Val, Vals, Fields, missing, null, truth, int, time, text, list, struct, no_vals, val, no_fields, field}
use Rattle.value_meaning.specs.Pairs.{IsBelow}
use Rattle.value_meaning.specs.Sound.{IsSound, AreSound, HasSoundFields, IsBelowFirst}
use Rattle.block_meaning.specs.Numbers.{magnitude}
use Rattle.block_meaning.specs.Tables.{Table, TextsRise, text_of, last_symbol}
use Rattle.block_meaning.specs.Timestamps.{IsTimestamp}
use Rattle.block_meaning.specs.Cells.{IsCell, AreCells, ArePairs, HasPayload, IsMagnitude}
use Rattle.block_meaning.proofs.Symbols.{text_of_range}
use Rattle.write_meaning.specs.Weights.{weight, weights, pair_weights}
use Rattle.write_meaning.specs.Encoding.{digits, cell_bytes, number_of, text_bytes, label_bytes, time_bytes, in_range, time_cell, encode, encode_items, encode_pairs, var_uint_bytes, head_bytes}
use Rattle.write_meaning.specs.Standing.{IsWritable, AreWritable, PairsAreWritable, IsNumbered, HasNames, HaveNames, PairsHaveNames}
use Rattle.write_meaning.specs.Laws.{EncodingsAreCells, EncodingsAreLight}
use Rattle.write_meaning.proofs.Timestamped.{time_stamped}
use Rattle.write_meaning.proofs.ShortTimes.{time_short}
use Rattle.write_meaning.proofs.Digits.{digits_length, magnitude_spelled, var_uint_length, var_uint_some, var_uint_spelled}
use Rattle.write_meaning.proofs.Heads.{head_length, head_of_short, head_some, cell_stands, cell_length}
use Rattle.write_meaning.proofs.Numbering.{number_stands, number_rises}

-- ---- lengths

-- What is written for a time is short, and its timestamp.
pub record TimesServe : Type 0 where
  pub short : (t : ℤ) → is_time t ≡ true → length (time_bytes t) ≤ 12
  pub stand : (t : ℤ) → is_time t ≡ true → IsTimestamp t (time_bytes t)

pub short_cell : (t most : ℕ) (payload : List ℕ) → length payload ≤ most → most ≤ 13 → length (cell_bytes t payload) ≤ 1 + most
short_cell t most payload h k = omega (arith, cell_length t payload, head_of_short t (length payload) (omega arith))

pub any_cell : (t : ℕ) (payload : List ℕ) → length (cell_bytes t payload) ≤ 5 + length payload
any_cell t payload = omega (arith, cell_length t payload, head_length t (length payload))

text_light : (o : Option ℕ) (s : List ℕ) → length (text_bytes o s) ≤ 5 + length s
text_light None s = any_cell 8 s
text_light (Some n) s = omega (arith, short_cell 7 4 (digits 256 4 n) (digits_length 256 4 n) (omega arith))

pub label_light : (o : Option ℕ) → length (label_bytes o) ≤ 4
label_light None = omega arith
label_light (Some n) = var_uint_length n

ranged_light : (b : Bool) (bytes : List ℕ) (most : ℕ) → (b ≡ true → length bytes ≤ most) → length (in_range b bytes) ≤ most
ranged_light true bytes most h = h refl
ranged_light false bytes most h = omega arith

pub time_light : (t : ℤ) → (is_time t ≡ true → length (time_bytes t) ≤ 12) → length (time_cell t) ≤ 13
unfolding time_cell
time_light t h = ranged_light _ _ 13 (λ e. short_cell 6 12 (time_bytes t) (h e) (omega arith))

in_time : (t : ℤ) → is_time t ≡ true → time_cell t ≡ cell_bytes 6 (time_bytes t)
unfolding time_cell
in_time t e = rw e refl

module _ (table : Table) (times : TimesServe) where
  mutual
    pub light : (v : Val) → length (encode table v) ≤ weight v
    light missing = omega arith
    light null = omega arith
    light (truth true) = omega arith
    light (truth false) = omega arith
    light (int (pos n)) = ranged_light _ _ 9 (λ _. short_cell 2 8 (digits 256 8 n) (digits_length 256 8 n) (omega arith))
    light (int (negsuc n)) = ranged_light _ _ 9 (λ _. short_cell 3 8 (digits 256 8 (suc n)) (digits_length 256 8 (suc n)) (omega arith))
    light (time t) = time_light t (times.short t)
    light (text s) = text_light (number_of table s) s
    light (list vs) = omega (arith, any_cell 11 (encode_items table vs), items_light vs)
    light (struct fs) = omega (arith, any_cell 13 (encode_pairs table fs), pairs_light fs)

    pub items_light : (vs : Vals) → length (encode_items table vs) ≤ weights vs
    items_light no_vals = omega arith
    items_light (val v vs) = omega (arith, length-append (encode table v) (encode_items table vs), light v, items_light vs)

    pub pairs_light : (fs : Fields) → length (encode_pairs table fs) ≤ pair_weights fs
    pairs_light no_fields = omega arith
    pairs_light (field n v fs) =
        omega (arith, length-append (label_bytes (number_of table n)) (encode table v ++ encode_pairs table fs), length-append (encode table v) (encode_pairs table fs), label_light (number_of table n), light v, pairs_light fs)

-- ---- cells

cell_some : (t : ℕ) (payload : List ℕ) → 1 ≤ length (cell_bytes t payload)
cell_some t payload = omega (arith, cell_length t payload, head_some t (length payload))

text_some : (o : Option ℕ) (s : List ℕ) → 1 ≤ length (text_bytes o s)
text_some None s = cell_some 8 s
text_some (Some n) s = cell_some 7 (digits 256 4 n)

-- a cell has a byte
written : (table : Table) (depth : ℕ) (v : Val) → IsWritable depth v → 1 ≤ length (encode table v)
written table depth missing w = absurd w
written table depth null w = omega arith
written table depth (truth true) w = omega arith
written table depth (truth false) w = omega arith
written table depth (int (pos n)) w = rw (lt-ltb n (2 ^ 63) w) (cell_some 2 (digits 256 8 n))
written table depth (int (negsuc n)) w = rw (lt-ltb n (2 ^ 63) w) (cell_some 3 (digits 256 8 (suc n)))
written table depth (time t) w = rw (in_time t w) (cell_some 6 (time_bytes t))
written table depth (text s) w = text_some (number_of table s) s
written table depth (list vs) w = cell_some 11 (encode_items table vs)
written table depth (struct fs) w = cell_some 13 (encode_pairs table fs)

-- pairs have no byte or more than one
not_one : (table : Table) (depth : ℕ) (fs : Fields) → PairsAreWritable depth fs → PairsHaveNames table fs → length (encode_pairs table fs) ≡ 1 → ⊥
not_one table depth no_fields w h e = omega (arith, e)
not_one table depth (field n v fs) w h e =
    let mark : length (label_bytes (number_of table n)) ≡ length (var_uint_bytes h.0.0) = ap (λ o. length (label_bytes o)) h.0.1 in
    omega (arith, e, mark, var_uint_some h.0.0, written table depth v w.0, length-append (label_bytes (number_of table n)) (encode table v ++ encode_pairs table fs), length-append (encode table v) (encode_pairs table fs))

spells : (most n : ℕ) → n < 256 ^ most → IsMagnitude most (digits 256 most n) n
spells most n h = record { short = digits_length 256 most n; spells = sym (magnitude_spelled most n h) }

-- the first label is at least so large
abbrev Starts : Table → ℕ → Fields → Type 0
Starts table low no_fields = Unit {0}
Starts table low (field n v fs) = (l : ℕ) → number_of table n ≡ Some l → low ≤ l

starts_next : (table : Table) (n : List ℕ) (l : ℕ) (fs : Fields) → TextsRise table → number_of table n ≡ Some l → IsBelowFirst n fs → Starts table (suc l) fs
starts_next table n l no_fields r e h = tt
starts_next table n l (field m v fs) r e h = λ k f. omega (arith, number_rises table n m l k r e f h)

starts_first : (table : Table) (fs : Fields) → Starts table 10 fs
starts_first table no_fields = tt
starts_first table (field n v fs) = λ l e. (number_stands table n l e).0

-- what the table and the times must be like
pub record Serves (table : Table) : Type 0 where
  pub rise : TextsRise table
  pub few : length table ≤ 16_000_000
  pub times : TimesServe

number_small : (table : Table) (s : List ℕ) (n : ℕ) → length table ≤ 16_000_000 → number_of table s ≡ Some n → n ≤ 16_000_009
number_small table s n few e =
    let r = text_of_range table n s (number_stands table s n e).1 in
    omega (arith, r.1, few)

text_stands : (table : Table) (depth : ℕ) (s : List ℕ) (o : Option ℕ) → number_of table s ≡ o → length table ≤ 16_000_000 → IsUtf8 s → length s < 268_435_456 → IsCell table depth (text s) (text_bytes o s)
text_stands table depth s None e few u h = inr (cell_stands 8 s h (λ j k. omega (arith, j, k)), u)
text_stands table depth s (Some n) e few u h =
    let small = number_small table s n few e in
    let short = digits_length 256 4 n in
    inl (digits 256 4 n, n, cell_stands 7 (digits 256 4 n) (omega arith) (λ j k. omega (arith, j, k)), spells 4 n (omega arith), (number_stands table s n e).1)

module _ (table : Table) (serves : Serves table) where
  mutual
    pub stands : (depth : ℕ) (v : Val) → IsSound v → IsWritable depth v → HasNames table v → weight v ≤ 16_000_000 → IsCell table depth v (encode table v)
    stands depth missing s w h k = absurd w
    stands depth null s w h k = (0, (0, omega arith, refl), refl)
    stands depth (truth b) s w h k = refl
    stands depth (int (pos n)) s w h k =
        let short = digits_length 256 8 n in
        rw (lt-ltb n (2 ^ 63) w) (digits 256 8 n, cell_stands 2 (digits 256 8 n) (omega arith) (λ j e. omega (arith, j, e)), spells 8 n (omega arith), w)
    stands depth (int (negsuc n)) s w h k =
        let short = digits_length 256 8 (suc n) in
        rw (lt-ltb n (2 ^ 63) w) (digits 256 8 (suc n), cell_stands 3 (digits 256 8 (suc n)) (omega arith) (λ j e. omega (arith, j, e)), spells 8 (suc n) (omega arith), w)
    stands depth (time t) s w h k =
        let short = serves.times.short t w in
        rw (in_time t w) (time_bytes t, cell_stands 6 (time_bytes t) (omega arith) (λ j e. omega (arith, j, e)), serves.times.stand t w)
    stands depth (text s) u w h k = text_stands table depth s (number_of table s) refl serves.few u (omega arith)
    stands depth (list vs) s w h k =
        let short = items_light table serves.times vs in
        (encode_items table vs, cell_stands 11 (encode_items table vs) (omega arith) (λ j e. omega (arith, j, e)), w.0, items_stand (suc depth) vs s w.1 h (omega arith))
    stands depth (struct fs) s w h k =
        let short = pairs_light table serves.times fs in
        let apart = not_one table (suc depth) fs w.1 h in
        (encode_pairs table fs, cell_stands 13 (encode_pairs table fs) (omega arith) (λ j e. apart (omega (arith, e))), w.0, pairs_stand (suc depth) 10 fs s w.1 h (omega arith) (starts_first table fs))

    pub items_stand : (depth : ℕ) (vs : Vals) → AreSound vs → AreWritable depth vs → HaveNames table vs → weights vs ≤ 16_000_000 → AreCells table depth vs (encode_items table vs)
    items_stand depth no_vals s w h k = refl
    items_stand depth (val v vs) s w h k =
        (encode table v, encode_items table vs, refl, stands depth v s.0 w.0 h.0 (omega arith), items_stand depth vs s.1 w.1 h.1 (omega arith))

    pub pairs_stand : (depth low : ℕ) (fs : Fields) → HasSoundFields fs → PairsAreWritable depth fs → PairsHaveNames table fs → pair_weights fs ≤ 16_000_000 → Starts table low fs → ArePairs table depth low fs (encode_pairs table fs)
    pairs_stand depth low no_fields s w h k from = refl
    pairs_stand depth low (field n v fs) s w h k from =
        let l = h.0.0 in
        let e : number_of table n ≡ Some l = h.0.1 in
        let small = number_small table n l serves.few e in
        rw e (
          l,
          var_uint_bytes l,
          encode table v,
          encode_pairs table fs,
          refl,
          from l e,
          (number_stands table n l e).1,
          var_uint_spelled l (omega arith),
          stands depth v s.2 w.0 h.1 (omega arith),
          pairs_stand depth (suc l) fs s.3 w.1 h.2 (omega arith) (starts_next table n l fs serves.rise e s.1),
        )

times_serve : TimesServe
times_serve = record { short = time_short; stand = time_stamped }

pub encodings_are_cells : EncodingsAreCells
encodings_are_cells table depth v rise few sound writable names light = stands table (record { rise = rise; few = few; times = times_serve }) depth v sound writable names light

pub encodings_are_light : EncodingsAreLight
encodings_are_light table v = light table times_serve v

pub items_are_cells : (table : Table) (depth : ℕ) (vs : Vals) → TextsRise table → length table ≤ 16_000_000 → AreSound vs → AreWritable depth vs → HaveNames table vs → weights vs ≤ 16_000_000 → AreCells table depth vs (encode_items table vs)
items_are_cells table depth vs rise few sound writable names light = items_stand table (record { rise = rise; few = few; times = times_serve }) depth vs sound writable names light
