-- What names and texts weigh beyond what is written for them pays for their entries in the table.
use Rattle.std.proofs.Common.{◌≡◌, ◌⊎◌, ℕ, suc, ◌+◌, ◌*◌, ◌<◌, ◌≤◌, Bool, true, false, cond, nat_le, List, [], ◌∷◌, ◌++◌, length, Option, Some, None, bytes_eq, refl, sym, ap, ◌∙◌, arith, inl, inr}
use Rattle.std.specs.Prelude.{count_by, sum_by, if◌then◌else◌}
use Rattle.std.proofs.lemmas.Bool.{leb-true}
use Rattle.std.proofs.lemmas.List.{length-append}
use Rattle.std.proofs.lemmas.List.Sums.{sum_by-cons}
use Rattle.std.proofs.lemmas.Slice.Eq.{bytes_eq-Decides}
use Rattle.value_meaning.specs.Val.{Val, Vals, Fields, missing, null, truth, int, time, text, list, struct, no_vals, val, no_fields, field, vals}
use Rattle.value_meaning.specs.Pairs.{IsBelow}
use Rattle.block_meaning.specs.Tables.{Table, TextsRise}
use Rattle.write_meaning.specs.Weights.{weight, weights, pair_weights}
use Rattle.write_meaning.specs.Encoding.{digits, cell_bytes, head_bytes, number_from, number_of, text_bytes, label_bytes, encode, encode_items, encode_pairs}
use Rattle.write_meaning.specs.BlockBytes.{texts_bytes}
use Rattle.write_meaning.specs.BlockTables.{names, item_names, pair_names, texts, item_texts, pair_texts, IsAmong, IsRepeated, IsTableOf}
use Rattle.write_meaning.proofs.Digits.{digits_length, one_byte}
use Rattle.write_meaning.proofs.Heads.{head_of_short, cell_length, head_length, long_head}
use Rattle.write_meaning.proofs.Numbering.{not_itself, tail_rises}
use Rattle.write_meaning.proofs.BlockTables.{above_head}
use Rattle.write_meaning.proofs.Encoded.{any_cell, short_cell, label_light, encodings_are_light}

-- what names weigh beyond their labels
abbrev pub names_pay : List (List ℕ) → ℕ
names_pay [] = 0
names_pay (n ∷ ns) = 5 + length n + names_pay ns

-- what a text weighs beyond its symbol
abbrev text_pays : Option ℕ → List ℕ → ℕ
text_pays None s = 0
text_pays (Some n) s = length s

abbrev pub texts_pay : Table → List (List ℕ) → ℕ
texts_pay table [] = 0
texts_pay table (s ∷ ss) = text_pays (number_of table s) s + texts_pay table ss

names_joined : (a b : List (List ℕ)) → names_pay (a ++ b) ≡ names_pay a + names_pay b
names_joined [] b = omega arith
names_joined (n ∷ ns) b = omega (arith, names_joined ns b)

texts_joined : (table : Table) (a b : List (List ℕ)) → texts_pay table (a ++ b) ≡ texts_pay table a + texts_pay table b
texts_joined table [] b = omega arith
texts_joined table (s ∷ ss) b = omega (arith, texts_joined table ss b)

text_saved : (o : Option ℕ) (s : List ℕ) → length (text_bytes o s) + text_pays o s ≤ 5 + length s
text_saved None s = omega (arith, any_cell 8 s)
text_saved (Some n) s = omega (arith, short_cell 7 4 (digits 256 4 n) (digits_length 256 4 n) (omega arith))

module _ (table : Table) where
  mutual
    saved : (v : Val) → length (encode table v) + names_pay (names v) + texts_pay table (texts v) ≤ weight v
    saved missing = omega arith
    saved null = omega arith
    saved (truth true) = omega arith
    saved (truth false) = omega arith
    saved (int n) = omega (arith, encodings_are_light table (int n))
    saved (time t) = omega (arith, encodings_are_light table (time t))
    saved (text s) = omega (arith, text_saved (number_of table s) s)
    saved (list vs) = omega (arith, any_cell 11 (encode_items table vs), items_saved vs)
    saved (struct fs) = omega (arith, any_cell 13 (encode_pairs table fs), pairs_saved fs)

    pub items_saved : (vs : Vals) → length (encode_items table vs) + names_pay (item_names vs) + texts_pay table (item_texts vs) ≤ weights vs
    items_saved no_vals = omega arith
    items_saved (val v vs) =
        omega (arith, saved v, items_saved vs, length-append (encode table v) (encode_items table vs), names_joined (names v) (item_names vs), texts_joined table (texts v) (item_texts vs))

    pairs_saved : (fs : Fields) → length (encode_pairs table fs) + names_pay (pair_names fs) + texts_pay table (pair_texts fs) ≤ pair_weights fs
    pairs_saved no_fields = omega arith
    pairs_saved (field n v fs) =
        omega (arith, saved v, pairs_saved fs, label_light (number_of table n), length-append (label_bytes (number_of table n)) (encode table v ++ encode_pairs table fs), length-append (encode table v) (encode_pairs table fs), names_joined (names v) (pair_names fs), texts_joined table (texts v) (pair_texts fs))

-- ---- each entry is paid for

-- the amount, where the texts are equal
abbrev pub at_same : Bool → ℕ → ℕ
at_same true a = a
at_same false a = 0

-- what equal names and equal texts pay for an entry
abbrev by_names : List ℕ → List (List ℕ) → ℕ
by_names t [] = 0
by_names t (n ∷ ns) = at_same (bytes_eq n t) (5 + length n) + by_names t ns

abbrev by_texts : List ℕ → List (List ℕ) → ℕ
by_texts t [] = 0
by_texts t (s ∷ ss) = at_same (bytes_eq s t) (length s) + by_texts t ss

pub itself : (s : List ℕ) → bytes_eq s s ≡ true
itself s = (bytes_eq-Decides s s).1 refl

named : (t : List ℕ) (ns : List (List ℕ)) → IsAmong t ns → 5 + length t ≤ by_names t ns
named t [] h = absurd h
named t (n ∷ ns) (inl e) =
    let is : bytes_eq n t ≡ true = (bytes_eq-Decides n t).1 (sym e) in
    let long : length t ≡ length n = ap length e in
    rw is (omega (arith, long))
named t (n ∷ ns) (inr h) = omega (arith, named t ns h)

unfoldable pub count : List ℕ → List (List ℕ) → ℕ
count t ss = count_by (λ s. bytes_eq s t) ss

pub counts : (t s : List ℕ) (ss : List (List ℕ)) → count t (s ∷ ss) ≡ at_same (bytes_eq s t) 1 + count t ss
unfolding count
counts t s ss = sum_by-cons (λ s. cond (bytes_eq s t) 1 0) s ss ∙ ap (λ n. n + count t ss) (same (bytes_eq s t))
  where
    same : (b : Bool) → cond b 1 0 ≡ at_same b 1
    same true = refl
    same false = refl

pub counts_none : (t : List ℕ) → count t [] ≡ 0
unfolding count
counts_none t = refl

once_paid : (t : List ℕ) (ss : List (List ℕ)) → 1 ≤ count t ss → length t ≤ by_texts t ss
once_paid t [] h = absurd (omega (arith, h, counts_none t))
once_paid t (s ∷ ss) h = at (bytes_eq s t) refl (λ k. once_paid t ss k)
  where
    at : (b : Bool) → bytes_eq s t ≡ b → (1 ≤ count t ss → length t ≤ by_texts t ss) → length t ≤ at_same (bytes_eq s t) (length s) + by_texts t ss
    at true e rest =
        let long : length s ≡ length t = ap length ((bytes_eq-Decides s t).0 e) in
        rw e (omega (arith, long))
    at false e rest =
        let fewer : count t (s ∷ ss) ≡ at_same false 1 + count t ss = counts t s ss ∙ ap (λ b. at_same b 1 + count t ss) e in
        let k : 1 ≤ count t ss = omega (arith, fewer, h) in
        rw e (omega (arith, rest k))

twice_paid : (t : List ℕ) (ss : List (List ℕ)) → 2 ≤ count t ss → length t + length t ≤ by_texts t ss
twice_paid t [] h = absurd (omega (arith, h, counts_none t))
twice_paid t (s ∷ ss) h = at (bytes_eq s t) refl (λ k. twice_paid t ss k)
  where
    at : (b : Bool) → bytes_eq s t ≡ b → (2 ≤ count t ss → length t + length t ≤ by_texts t ss) → length t + length t ≤ at_same (bytes_eq s t) (length s) + by_texts t ss
    at true e rest =
        let long : length s ≡ length t = ap length ((bytes_eq-Decides s t).0 e) in
        let fewer : count t (s ∷ ss) ≡ 1 + count t ss = counts t s ss ∙ ap (λ b. at_same b 1 + count t ss) e in
        let k : 1 ≤ count t ss = omega (arith, fewer, h) in
        rw e (omega (arith, long, once_paid t ss k))
    at false e rest =
        let fewer : count t (s ∷ ss) ≡ at_same false 1 + count t ss = counts t s ss ∙ ap (λ b. at_same b 1 + count t ss) e in
        let k : 2 ≤ count t ss = omega (arith, fewer, h) in
        rw e (omega (arith, rest k))

small_head : (n : ℕ) → n < 128 → length (head_bytes 8 n) ≤ 2
small_head n h = at (nat_le n 13) refl
  where
    at : (b : Bool) → nat_le n 13 ≡ b → length (head_bytes 8 n) ≤ 2
    at true e = omega (arith, head_of_short 8 n (leb-true _ _ e))
    at false e = rw (long_head 8 n e) (omega (arith, one_byte n h))

-- a text of 3 to 32 bytes takes no more than twice its length
cell_paid : (t : List ℕ) → 3 ≤ length t → length t ≤ 32 → length (cell_bytes 8 t) ≤ length t + length t
cell_paid t low high = omega (arith, cell_length 8 t, small_head (length t) (omega arith))

paid : (ns ss : List (List ℕ)) (t : List ℕ) → (IsAmong t ns) ⊎ ((3 ≤ length t) × (length t ≤ 32) × (2 ≤ count t ss)) → length (cell_bytes 8 t) ≤ by_names t ns + by_texts t ss
paid ns ss t (inl h) = omega (arith, named t ns h, any_cell 8 t)
paid ns ss t (inr h) = omega (arith, cell_paid t h.0 h.1, twice_paid t ss h.2)

-- ---- and no name or text pays for two

all_names : Table → List (List ℕ) → ℕ
all_names [] ns = 0
all_names (t ∷ ts) ns = by_names t ns + all_names ts ns

all_texts : Table → List (List ℕ) → ℕ
all_texts [] ss = 0
all_texts (t ∷ ts) ss = by_texts t ss + all_texts ts ss

hits : Table → List ℕ → ℕ → ℕ
hits [] s a = 0
hits (t ∷ ts) s a = at_same (bytes_eq s t) a + hits ts s a

no_names : (table : Table) → all_names table [] ≡ 0
unfolding all_names
no_names [] = refl
no_names (t ∷ ts) = omega (arith, no_names ts)

no_texts : (table : Table) → all_texts table [] ≡ 0
unfolding all_texts
no_texts [] = refl
no_texts (t ∷ ts) = omega (arith, no_texts ts)

names_hit : (table : Table) (n : List ℕ) (ns : List (List ℕ)) → all_names table (n ∷ ns) ≡ hits table n (5 + length n) + all_names table ns
unfolding all_names hits
names_hit [] n ns = refl
names_hit (t ∷ ts) n ns = omega (arith, names_hit ts n ns)

texts_hit : (table : Table) (s : List ℕ) (ss : List (List ℕ)) → all_texts table (s ∷ ss) ≡ hits table s (length s) + all_texts table ss
unfolding all_texts hits
texts_hit [] s ss = refl
texts_hit (t ∷ ts) s ss = omega (arith, texts_hit ts s ss)

misses : (table : Table) (s : List ℕ) (a : ℕ) → (IsAmong s table → ⊥) → hits table s a ≡ 0
unfolding hits
misses [] s a out = refl
misses (t ∷ ts) s a out = at (bytes_eq s t) refl (misses ts s a (λ h. out (inr h)))
  where
    at : (b : Bool) → bytes_eq s t ≡ b → hits ts s a ≡ 0 → at_same (bytes_eq s t) a + hits ts s a ≡ 0
    at true e rest = absurd (out (inl ((bytes_eq-Decides s t).0 e)))
    at false e rest = rw e (omega (arith, rest))

hits_once : (table : Table) (s : List ℕ) (a : ℕ) → TextsRise table → hits table s a ≤ a
unfolding hits
hits_once [] s a r = omega arith
hits_once (t ∷ ts) s a r = at (bytes_eq s t) refl (hits_once ts s a (tail_rises t ts r))
  where
    at : (b : Bool) → bytes_eq s t ≡ b → hits ts s a ≤ a → at_same (bytes_eq s t) a + hits ts s a ≤ a
    at true e rest =
        let same : s ≡ t = (bytes_eq-Decides s t).0 e in
        let none : hits ts s a ≡ 0 = misses ts s a (λ h. not_itself s (let b : IsBelow t s = above_head t ts s r h in rw (← same) at b)) in
        rw e (omega (arith, none))
    at false e rest = rw e (omega (arith, rest))

-- a text of the table has a number
numbered_from : (first : ℕ) (table : Table) (s : List ℕ) → IsAmong s table → (n : ℕ) × (number_from first table s ≡ Some n)
numbered_from first [] s h = absurd h
numbered_from first (t ∷ ts) s h = at (bytes_eq t s) refl h (λ k. numbered_from (suc first) ts s k)
  where
    at : (b : Bool) → bytes_eq t s ≡ b → IsAmong s (t ∷ ts) → (IsAmong s ts → (n : ℕ) × (number_from (suc first) ts s ≡ Some n)) → (n : ℕ) × (number_from first (t ∷ ts) s ≡ Some n)
    at true e h later = (first, rw e refl)
    at false e (inl same) later = let is : bytes_eq t s ≡ true = (bytes_eq-Decides t s).1 (sym same) in absurd cc
    at false e (inr k) later = let m = later k in (m.0, rw e m.1)

pub numbered : (table : Table) (s : List ℕ) → IsAmong s table → (n : ℕ) × (number_of table s ≡ Some n)
unfolding number_of
numbered table s h = numbered_from 10 table s h

text_hit : (table : Table) (s : List ℕ) (o : Option ℕ) → TextsRise table → number_of table s ≡ o → hits table s (length s) ≤ text_pays o s
text_hit table s (Some n) r e = hits_once table s (length s) r
text_hit table s None r e = omega (arith, misses table s (length s) (λ h. let k = numbered table s h in cc))

names_enough : (table : Table) (ns : List (List ℕ)) → TextsRise table → all_names table ns ≤ names_pay ns
names_enough table [] r = omega (arith, no_names table)
names_enough table (n ∷ ns) r = omega (arith, names_hit table n ns, hits_once table n (5 + length n) r, names_enough table ns r)

texts_enough : (table : Table) (ss : List (List ℕ)) → TextsRise table → all_texts table ss ≤ texts_pay table ss
texts_enough table [] r = omega (arith, no_texts table)
texts_enough table (s ∷ ss) r = omega (arith, texts_hit table s ss, text_hit table s (number_of table s) r refl, texts_enough table ss r)

all_paid : (ns ss : List (List ℕ)) (table : Table) → ((t : List ℕ) → IsAmong t table → (IsAmong t ns) ⊎ ((3 ≤ length t) × (length t ≤ 32) × (2 ≤ count t ss))) → length (texts_bytes table) ≤ all_names table ns + all_texts table ss
unfolding all_names all_texts
all_paid ns ss [] each = omega arith
all_paid ns ss (t ∷ ts) each =
    omega (arith, paid ns ss t (each t (inl refl)), all_paid ns ss ts (λ u h. each u (inr h)), length-append (cell_bytes 8 t) (texts_bytes ts))

entry : (rows : Vals) (table : Table) → IsTableOf rows table → (t : List ℕ) → IsAmong t table → (IsAmong t (item_names rows)) ⊎ ((3 ≤ length t) × (length t ≤ 32) × (2 ≤ count t (item_texts rows)))
unfolding count
entry rows table h t among = at ((h.each t).0 among)
  where
    at : (IsAmong t (item_names rows)) ⊎ IsRepeated rows t → (IsAmong t (item_names rows)) ⊎ ((3 ≤ length t) × (length t ≤ 32) × (2 ≤ count_by (λ s. bytes_eq s t) (item_texts rows)))
    at (inl k) = inl k
    at (inr k) = inr (k.low, k.high, k.twice)

-- the entries of a table and the rows under it take no more than the rows weigh
pub paid_for : (table : Table) (rows : Vals) → IsTableOf rows table → length (texts_bytes table) + length (encode_items table rows) ≤ weights rows
paid_for table rows h =
    omega (arith, all_paid (item_names rows) (item_texts rows) table (entry rows table h), names_enough table (item_names rows) h.rise, texts_enough table (item_texts rows) h.rise, items_saved table rows)
