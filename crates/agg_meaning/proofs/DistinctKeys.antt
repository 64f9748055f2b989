-- The distinct lists of keys of a permutation are a permutation of the distinct lists of keys.
use Rattle.std.proofs.Common.{◌≡◌, List, ◌∷◌, Bool, true, false, cond, refl, subst}
use Rattle.std.specs.Prelude.{◌||◌}
use Rattle.std.specs.List.{list_any}
use Rattle.std.specs.List.Sorted.{IsPermutation}
use Rattle.std.proofs.lemmas.List.Sorted.{IsPermutation-refl, IsPermutation-sym, IsPermutation-trans, IsPermutation-cons}
use Rattle.value_meaning.specs.Val.{Val}
use Rattle.agg_meaning.specs.Keys.{same_keys}
use Rattle.agg_meaning.proofs.Keys.{same_keys-exact, same_keys-same}
use Rattle.agg_meaning.proofs.Shuffles.{shuffled, shuffled_from, flipped_front}
use Rattle.agg_meaning.specs.Keys.{with_keys, distinct_keys}

or_flip : (a b s : Bool) → (a || (b || s)) ≡ (b || (a || s))
or_flip true true s = refl
or_flip true false s = refl
or_flip false true s = refl
or_flip false false s = refl

-- whether a list of keys is among others doesn't depend on their order
among_shuffled : (k : List Val) (xs ys : List (List Val)) → IsPermutation xs ys → list_any (same_keys k) ys ≡ list_any (same_keys k) xs
among_shuffled k xs ys h =
    shuffled (list_any (same_keys k)) (λ x s. same_keys k x || s) (λ x l. refl) (λ x y s. or_flip (same_keys k x) (same_keys k y) s) xs ys h

same_flips : (j k : List Val) (b : Bool) → same_keys j k ≡ b → same_keys k j ≡ b
same_flips j k true h = let e : j ≡ k = same_keys-exact j k h in subst (λ x. same_keys x j ≡ true) e (same_keys-same j)
same_flips j k false h = go (same_keys k j) refl
  where
    go : (b : Bool) → same_keys k j ≡ b → b ≡ false
    go false e = refl
    go true e = let f : k ≡ j = same_keys-exact k j e in let g : same_keys j k ≡ true = subst (λ x. same_keys x k ≡ true) f (same_keys-same k) in absurd cc

under : (k : List Val) (xs ys : List (List Val)) → IsPermutation xs ys → IsPermutation (with_keys k xs) (with_keys k ys)
under k xs ys h = go (list_any (same_keys k) xs) (list_any (same_keys k) ys) (among_shuffled k xs ys h)
  where
    go : (b c : Bool) → c ≡ b → IsPermutation (cond b xs (k ∷ xs)) (cond c ys (k ∷ ys))
    go true true e = h
    go false false e = IsPermutation-cons k xs ys h
    go true false e = absurd cc
    go false true e = absurd cc

flip : (j k : List Val) (xs : List (List Val)) → IsPermutation (with_keys j (with_keys k xs)) (with_keys k (with_keys j xs))
flip j k xs = go (same_keys j k) refl (list_any (same_keys j) xs) refl (list_any (same_keys k) xs) refl
  where
    go : (b : Bool) → same_keys j k ≡ b → (c : Bool) → list_any (same_keys j) xs ≡ c → (d : Bool) → list_any (same_keys k) xs ≡ d
        → IsPermutation (with_keys j (with_keys k xs)) (with_keys k (with_keys j xs))
    go true h c e d f = let same : j ≡ k = same_keys-exact j k h in subst (λ x. IsPermutation (with_keys j (with_keys x xs)) (with_keys x (with_keys j xs))) same (IsPermutation-refl (with_keys j (with_keys j xs)))
    go false h true e true f = rw (f, e, f) (IsPermutation-refl xs)
    go false h true e false f = let g = same_flips j k false h in rw (f, e, h) (rw f (IsPermutation-refl (k ∷ xs)))
    go false h false e true f = let g = same_flips j k false h in rw (f, e, g, f) (IsPermutation-refl (j ∷ xs))
    go false h false e false f = let g = same_flips j k false h in rw (f, e, h, g) (rw f (flipped_front j k xs))

pub distinct_shuffled : (xs ys : List (List Val)) → IsPermutation xs ys → IsPermutation (distinct_keys xs) (distinct_keys ys)
distinct_shuffled xs ys h =
    IsPermutation-sym _ _ (shuffled_from distinct_keys IsPermutation IsPermutation-refl IsPermutation-trans with_keys (λ x l. refl) under flip xs ys h)
