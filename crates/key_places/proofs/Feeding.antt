-- Steps of the loops that feed values to a hasher, and why they end.
use Rattle.std.proofs.Common.{◌≡◌, ℕ, zero, suc, ◌+◌, ◌*◌, ◌<◌, ◌≤◌, List, [], ◌∷◌, length, get_or, drop, map, Some, slice_get, refl, sym, ap, ◌∙◌, arith}
use Rattle.std.proofs.lemmas.List.{drop_more, drop_all}
use Rattle.std.specs.declared.hash.DefaultHasher.{DefaultHasher}
use Rattle.snel_values.specs.declared.value.Value.{Value}
use Rattle.snel_values.specs.View.{view, views}
use Rattle.value_meaning.specs.Val.{Val, vals, fields, size, vals_size, fields_size}
use Rattle.value_meaning.specs.Pairs.{Pairs}
use Rattle.key_places.specs.Hashes.{fed_value, fed_vals, fed_fields, with_word, with_text}
use Rattle.key_places.specs.PairAt.{IsPairAt}

-- an item is smaller than its list
pub item_smaller : (all : List Val) (xs : List Value) (i : ℕ) (x : Value) → views xs ≡ all → i < length xs → x ≡ get_or xs i x → suc (2 * size (view x)) < 2 * vals_size (vals all)
item_smaller all xs i x same h e =
    let one : size (view x) < vals_size (vals (views xs)) = below xs i x h e in
    omega (arith, one, ap (λ vs. vals_size (vals vs)) same)
  where
    below : (xs : List Value) (i : ℕ) (x : Value) → i < length xs → x ≡ get_or xs i x → size (view x) < vals_size (vals (views xs))
    below [] i x h e = absurd (omega arith)
    below (w ∷ xs) zero x h e = omega (arith, ap (λ y. size (view y)) e)
    below (w ∷ xs) (suc i) x h e = omega (arith, below xs i x (omega arith) e)

value_below : (fs : Pairs) (i : ℕ) (f : List ℕ × Val) → slice_get fs i ≡ Some f → size f.1 < fields_size (fields fs)
value_below [] i f e = cc
value_below (g ∷ fs) zero f e =
    let same : g ≡ f = cc in
    omega (arith, ap (λ (p : List ℕ × Val). size p.1) same)
value_below (g ∷ fs) (suc i) f e = omega (arith, value_below fs i f e)

-- a pair's value is smaller than its struct
pub value_smaller : (fs : Pairs) (i : ℕ) (name : List ℕ) (v : Val) → IsPairAt fs i name v → suc (2 * size v) < 2 * fields_size (fields fs)
value_smaller fs i name v p = omega (arith, value_below fs i (name, v) p.found)

pairs_ahead : (fs : Pairs) (i : ℕ) (f : List ℕ × Val) → slice_get fs i ≡ Some f → drop i fs ≡ f ∷ drop (suc i) fs
pairs_ahead [] i f e = cc
pairs_ahead (g ∷ fs) zero f e =
    let same : g ≡ f = cc in
    ap (λ p. p ∷ fs) same
pairs_ahead (g ∷ fs) (suc i) f e = pairs_ahead fs i f e

-- the pairs from a place on
pairs_from : (fs : Pairs) (i : ℕ) (name : List ℕ) (v : Val) → IsPairAt fs i name v → fields (drop i fs) ≡ fields ((name, v) ∷ drop (i + 1) fs)
pairs_from fs i name v p =
    let next : i + 1 ≡ suc i = omega arith in
    rw (next, pairs_ahead fs i (name, v) p.found) refl

-- one more value is fed
pub value_fed : (xs : List Value) (i : ℕ) (x : Value) (old new whole : DefaultHasher) → i < length xs → x ≡ get_or xs i x → new ≡ fed_value (view x) old
    → fed_vals (vals (views (drop i xs))) old ≡ whole → fed_vals (vals (views (drop (i + 1) xs))) new ≡ whole
value_fed xs i x old new whole h e grown sofar =
    let here : drop i xs ≡ x ∷ drop (i + 1) xs = drop_more xs i x h ∙ ap (λ y. y ∷ drop (i + 1) xs) (sym e) in
    ap (fed_vals (vals (views (drop (i + 1) xs)))) grown ∙ sym (ap (λ l. fed_vals (vals (views l)) old) here) ∙ sofar

-- one more pair is fed
pub pair_fed : (fs : Pairs) (i : ℕ) (name : List ℕ) (v : Val) (old named new whole : DefaultHasher) → IsPairAt fs i name v → named ≡ with_text name (with_word 6 old) → new ≡ fed_value v named
    → fed_fields (fields (drop i fs)) old ≡ whole → fed_fields (fields (drop (i + 1) fs)) new ≡ whole
pair_fed fs i name v old named new whole p text grown sofar =
    ap (fed_fields (fields (drop (i + 1) fs))) (grown ∙ ap (fed_value v) text) ∙ sym (ap (λ l. fed_fields l old) (pairs_from fs i name v p)) ∙ sofar
