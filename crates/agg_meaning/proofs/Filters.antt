-- The filter of a permutation is a permutation of the filter.
use Rattle.std.proofs.Common.{List, ◌∷◌, Bool, true, false, cond, refl}
use Rattle.std.specs.List.{filter}
use Rattle.std.specs.List.Sorted.{IsPermutation}
use Rattle.std.proofs.lemmas.List.Sorted.{IsPermutation-refl, IsPermutation-sym, IsPermutation-trans, IsPermutation-cons}
use Rattle.agg_meaning.proofs.Shuffles.{shuffled_from, flipped_front}

filter_front : {X : Type 0} (b c : Bool) (x y : X) (l : List X) → IsPermutation (cond b (x ∷ cond c (y ∷ l) l) (cond c (y ∷ l) l)) (cond c (y ∷ cond b (x ∷ l) l) (cond b (x ∷ l) l))
filter_front true true x y l = flipped_front x y l
filter_front true false x y l = IsPermutation-refl (x ∷ l)
filter_front false true x y l = IsPermutation-refl (y ∷ l)
filter_front false false x y l = IsPermutation-refl l

filter_under : {X : Type 0} (b : Bool) (x : X) (k l : List X) → IsPermutation k l → IsPermutation (cond b (x ∷ k) k) (cond b (x ∷ l) l)
filter_under true x k l p = IsPermutation-cons x k l p
filter_under false x k l p = p

pub filter-shuffled : {X : Type 0} (p : X → Bool) (xs ys : List X) → IsPermutation xs ys → IsPermutation (filter p xs) (filter p ys)
filter-shuffled p xs ys h =
    IsPermutation-sym _ _ (shuffled_from (filter p) IsPermutation IsPermutation-refl IsPermutation-trans (λ x l. cond (p x) (x ∷ l) l) (λ x l. refl)
    (λ x k l. filter_under (p x) x k l) (λ x y l. filter_front (p x) (p y) x y l) xs ys h)
