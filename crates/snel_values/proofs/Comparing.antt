-- Two lists of values, compared from a place on.
use Rattle.std.proofs.Common.{◌≡◌, ℕ, zero, suc, ◌+◌, ◌<◌, ◌≤◌, true, false, List, [], ◌∷◌, length, get_or, drop, map, min, refl, sym, ◌∙◌, arith, add-one, drop-cons, Ordering}
use Rattle.std.specs.declared.cmp.Ordering.TheVariants.{Less, Equal, Greater}
use Rattle.std.specs.Bool.{◌==◌}
use Rattle.std.specs.Ordering.{ordering_then, ordering_index, nat_cmp}
use Rattle.std.specs.Cmp.Lexicographic.{slice_cmp}
use Rattle.std.proofs.lemmas.List.{get_or-map, length-map}
use Rattle.std.proofs.lemmas.Grind.{common_steps}
use Rattle.std.proofs.lemmas.Bool.Decides.{nat_tests}
use mathlib.Core.Bool.{not}
use Rattle.value_meaning.specs.Val.{Val, vals, fields}
use Rattle.value_meaning.specs.Order.{val_cmp, vals_cmp, fields_cmp}
use Rattle.snel_values.specs.declared.value.Value.{Value}
use Rattle.snel_values.specs.declared.pairs.Pair.{Pair}
use Rattle.snel_values.specs.View.{view, pair_view}

-- what a test for an unequal answer says of two answers in a row
pub decided : (o v p : Ordering) → o ≡ v → not (ordering_index o == 1) ≡ true → ordering_then v p ≡ o
decided o Less p e h = sym e
decided o Greater p e h = sym e
decided o Equal p e h = let k : not (ordering_index Equal == 1) ≡ true = rw e at h in cc

pub tied : (o v p : Ordering) → o ≡ v → not (ordering_index o == 1) ≡ false → ordering_then v p ≡ p
tied o Less p e h = let k : not (ordering_index Less == 1) ≡ false = rw e at h in cc
tied o Greater p e h = let k : not (ordering_index Greater == 1) ≡ false = rw e at h in cc
tied o Equal p e h = refl

pub drop_map : {A B : Type 0} (f : A → B) (xs : List A) (i : ℕ) (x : A) → i < length xs → x ≡ get_or xs i x → drop i (map f xs) ≡ f x ∷ drop (i + 1) (map f xs)
drop_map f xs i x h e =
    let k : i < length (map f xs) = grind (arith, common_steps) in
    rw (add-one, drop-cons (map f xs) i (f x), get_or-map f xs i x (f x), ← e) refl

both_more : (m n : ℕ) → nat_cmp (suc m) (suc n) ≡ nat_cmp m n
both_more m n = grind (arith, nat_tests)

pub ended : (xs ys : List Val) (i : ℕ) → i ≤ length xs → i ≤ length ys → min (length xs) (length ys) ≤ i → vals_cmp (vals (drop i xs)) (vals (drop i ys)) ≡ nat_cmp (length xs) (length ys)
ended [] [] zero a b h = refl
ended [] (y ∷ ys) zero a b h = grind (arith, nat_tests)
ended (x ∷ xs) [] zero a b h = grind (arith, nat_tests)
ended (x ∷ xs) (y ∷ ys) zero a b h = absurd (omega arith)
ended [] ys (suc i) a b h = absurd (omega arith)
ended (x ∷ xs) [] (suc i) a b h = absurd (omega arith)
ended (x ∷ xs) (y ∷ ys) (suc i) a b h = ended xs ys i (omega arith) (omega arith) (omega arith) ∙ sym (both_more (length xs) (length ys))

module _ (xs ys : List Value) (i : ℕ) (x y : Value) (o w : Ordering) (h : i < length xs) (k : i < length ys) (e : x ≡ get_or xs i x) (g : y ≡ get_or ys i y) (is : o ≡ val_cmp (view x) (view y)) (sofar : w ≡ vals_cmp (vals (drop i (map view xs))) (vals (drop i (map view ys)))) where
  next : w ≡ ordering_then (val_cmp (view x) (view y)) (vals_cmp (vals (drop (i + 1) (map view xs))) (vals (drop (i + 1) (map view ys))))
  next = sofar ∙ (rw (drop_map view xs i x h e, drop_map view ys i y k g) refl)

  pub items_decided : not (ordering_index o == 1) ≡ true → o ≡ w
  items_decided t = sym (next ∙ decided o _ _ is t)

  pub items_tied : not (ordering_index o == 1) ≡ false → w ≡ vals_cmp (vals (drop (i + 1) (map view xs))) (vals (drop (i + 1) (map view ys)))
  items_tied t = next ∙ tied o _ _ is t

module _ (xs ys : List Pair) (i : ℕ) (x y : Pair) (n w : Ordering) (h : i < length xs) (k : i < length ys) (e : x ≡ get_or xs i x) (g : y ≡ get_or ys i y) (named : n ≡ slice_cmp nat_cmp x.name y.name) (sofar : w ≡ fields_cmp (fields (drop i (map pair_view xs))) (fields (drop i (map pair_view ys)))) where
  pair_next : w ≡ ordering_then (slice_cmp nat_cmp x.name y.name) (ordering_then (val_cmp (view x.value) (view y.value)) (fields_cmp (fields (drop (i + 1) (map pair_view xs))) (fields (drop (i + 1) (map pair_view ys)))))
  pair_next = sofar ∙ (rw (drop_map pair_view xs i x h e, drop_map pair_view ys i y k g) refl)

  pub names_decided : not (ordering_index n == 1) ≡ true → n ≡ w
  names_decided t = sym (pair_next ∙ decided n _ _ named t)

  pub pairs_decided : (o : Ordering) → o ≡ val_cmp (view x.value) (view y.value) → not (ordering_index n == 1) ≡ false → not (ordering_index o == 1) ≡ true → o ≡ w
  pairs_decided o is s t = sym (pair_next ∙ tied n _ _ named s ∙ decided o _ _ is t)

  pub pairs_tied : (o : Ordering) → o ≡ val_cmp (view x.value) (view y.value) → not (ordering_index n == 1) ≡ false → not (ordering_index o == 1) ≡ false → w ≡ fields_cmp (fields (drop (i + 1) (map pair_view xs))) (fields (drop (i + 1) (map pair_view ys)))
  pairs_tied o is s t = pair_next ∙ tied n _ _ named s ∙ tied o _ _ is t

pub pairs_ended : (xs ys : List (List ℕ × Val)) (i : ℕ) → i ≤ length xs → i ≤ length ys → min (length xs) (length ys) ≤ i → fields_cmp (fields (drop i xs)) (fields (drop i ys)) ≡ nat_cmp (length xs) (length ys)
pairs_ended [] [] zero a b h = refl
pairs_ended [] (y ∷ ys) zero a b h = grind (arith, nat_tests)
pairs_ended (x ∷ xs) [] zero a b h = grind (arith, nat_tests)
pairs_ended (x ∷ xs) (y ∷ ys) zero a b h = absurd (omega arith)
pairs_ended [] ys (suc i) a b h = absurd (omega arith)
pairs_ended (x ∷ xs) [] (suc i) a b h = absurd (omega arith)
pairs_ended (x ∷ xs) (y ∷ ys) (suc i) a b h = pairs_ended xs ys i (omega arith) (omega arith) (omega arith) ∙ sym (both_more (length xs) (length ys))

pub items_end : (xs ys : List Value) (i p q : ℕ) (w o : Ordering) → i ≤ length xs → i ≤ length ys → min (length xs) (length ys) ≤ i → p ≡ length xs → q ≡ length ys → o ≡ nat_cmp p q → w ≡ vals_cmp (vals (drop i (map view xs))) (vals (drop i (map view ys))) → o ≡ w
items_end xs ys i p q w o h k m e g is sofar =
    let lx = length-map xs view in
    let ly = length-map ys view in
    let last = ended (map view xs) (map view ys) i (omega (arith, lx)) (omega (arith, ly)) (omega (arith, lx, ly)) in
    is ∙ (rw (e, g, ← lx, ← ly) refl) ∙ sym (sofar ∙ last)

pub pairs_end : (xs ys : List Pair) (i p q : ℕ) (w o : Ordering) → i ≤ length xs → i ≤ length ys → min (length xs) (length ys) ≤ i → p ≡ length xs → q ≡ length ys → o ≡ nat_cmp p q → w ≡ fields_cmp (fields (drop i (map pair_view xs))) (fields (drop i (map pair_view ys))) → o ≡ w
pairs_end xs ys i p q w o h k m e g is sofar =
    let lx = length-map xs pair_view in
    let ly = length-map ys pair_view in
    let last = pairs_ended (map pair_view xs) (map pair_view ys) i (omega (arith, lx)) (omega (arith, ly)) (omega (arith, lx, ly)) in
    is ∙ (rw (e, g, ← lx, ← ly) refl) ∙ sym (sofar ∙ last)
