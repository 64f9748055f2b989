-- Steps of the loops that weigh, and why they end.
use Rattle.std.proofs.Common.{◌≡◌, ℕ, zero, suc, ◌+◌, ◌*◌, ◌<◌, ◌≤◌, List, [], ◌∷◌, ◌++◌, length, get_or, drop, map, Some, None, slice_get, refl, sym, ap, ◌∙◌, arith, append_assoc, append-nil}
use Rattle.std.proofs.lemmas.List.{drop_more, drop_all}
use Rattle.snel_values.specs.declared.value.Value.{Value}
use Rattle.snel_values.specs.View.{view, views}
use Rattle.value_meaning.specs.Val.{Val, vals, fields, size, vals_size, fields_size}
use Rattle.value_meaning.specs.Pairs.{Pairs}
use Rattle.block_meaning.specs.Tables.{Table}
use Rattle.write_meaning.specs.Encoding.{number_of, label_bytes, encode, encode_items, encode_pairs}
use Rattle.ion_write.specs.PairAt.{IsPairAt}

-- an item is smaller than its list
pub value_smaller : (all : List Val) (xs : List Value) (i : ℕ) (x : Value) → views xs ≡ all → i < length xs → x ≡ get_or xs i x → suc (2 * size (view x)) < 2 * vals_size (vals all)
value_smaller all xs i x same h e =
    let one : size (view x) < vals_size (vals (views xs)) = within xs i x h e in
    omega (arith, one, ap (λ vs. vals_size (vals vs)) same)
  where
    within : (xs : List Value) (i : ℕ) (x : Value) → i < length xs → x ≡ get_or xs i x → size (view x) < vals_size (vals (views xs))
    within [] i x h e = absurd (omega arith)
    within (w ∷ xs) zero x h e = omega (arith, ap (λ y. size (view y)) e)
    within (w ∷ xs) (suc i) x h e = omega (arith, within xs i x (omega arith) e)

pair_below : (fs : Pairs) (i : ℕ) (f : List ℕ × Val) → slice_get fs i ≡ Some f → size f.1 < fields_size (fields fs)
pair_below [] i f e = cc
pair_below (g ∷ fs) zero f e =
    let same : g ≡ f = cc in
    omega (arith, ap (λ (p : List ℕ × Val). size p.1) same)
pair_below (g ∷ fs) (suc i) f e = omega (arith, pair_below fs i f e)

-- a pair's value is smaller than its struct
pub pair_smaller : (fs : Pairs) (i : ℕ) (name : List ℕ) (v : Val) → IsPairAt fs i name v → suc (2 * size v) < 2 * fields_size (fields fs)
pair_smaller fs i name v p = omega (arith, pair_below fs i (name, v) p.found)

pairs_ahead : (fs : Pairs) (i : ℕ) (f : List ℕ × Val) → slice_get fs i ≡ Some f → drop i fs ≡ f ∷ drop (suc i) fs
pairs_ahead [] i f e = cc
pairs_ahead (g ∷ fs) zero f e =
    let same : g ≡ f = cc in
    ap (λ p. p ∷ fs) same
pairs_ahead (g ∷ fs) (suc i) f e = pairs_ahead fs i f e

-- the pairs from a place on
pub pairs_from : (fs : Pairs) (i : ℕ) (name : List ℕ) (v : Val) → IsPairAt fs i name v → fields (drop i fs) ≡ fields ((name, v) ∷ drop (i + 1) fs)
pairs_from fs i name v p =
    let next : i + 1 ≡ suc i = omega arith in
    rw (next, pairs_ahead fs i (name, v) p.found) refl

-- one more item is written
pub item_written : (table : Table) (all : List Val) (xs : List Value) (i : ℕ) (x : Value) (old new whole : List ℕ) → i < length xs → x ≡ get_or xs i x → new ≡ old ++ encode table (view x)
    → old ++ encode_items table (vals (views (drop i xs))) ≡ whole → new ++ encode_items table (vals (views (drop (i + 1) xs))) ≡ whole
item_written table all xs i x old new whole h e grown so_far =
    let here : drop i xs ≡ x ∷ drop (i + 1) xs = drop_more xs i x h ∙ ap (λ y. y ∷ drop (i + 1) xs) (sym e) in
    rw (grown, append_assoc) (rw here at so_far)

pub items_written : (table : Table) (all : List Val) (xs : List Value) (i : ℕ) (made : List ℕ) → views xs ≡ all → length xs ≤ i
    → made ++ encode_items table (vals (views (drop i xs))) ≡ encode_items table (vals all) → made ≡ encode_items table (vals all)
items_written table all xs i made same h e =
    let none : drop i xs ≡ [] = drop_all i xs h in
    let left : made ++ [] ≡ encode_items table (vals all) = rw none at e in
    sym (append-nil made) ∙ left

-- one more pair is written
pub pair_written : (table : Table) (fs : Pairs) (i : ℕ) (name : List ℕ) (v : Val) (old named new whole : List ℕ) → IsPairAt fs i name v → named ≡ old ++ label_bytes (number_of table name) → new ≡ named ++ encode table v
    → old ++ encode_pairs table (fields (drop i fs)) ≡ whole → new ++ encode_pairs table (fields (drop (i + 1) fs)) ≡ whole
pair_written table fs i name v old named new whole p label grown so_far =
    rw (grown, label, append_assoc, append_assoc) (rw (pairs_from fs i name v p) at so_far)

pub pairs_written : (table : Table) (fs : Pairs) (i : ℕ) (made : List ℕ) → length fs ≤ i → made ++ encode_pairs table (fields (drop i fs)) ≡ encode_pairs table (fields fs) → made ≡ encode_pairs table (fields fs)
pairs_written table fs i made h e =
    let none : drop i fs ≡ [] = drop_all i fs h in
    let left : made ++ [] ≡ encode_pairs table (fields fs) = rw none at e in
    sym (append-nil made) ∙ left
