-- The flags of order keys, one after the other.
use Rattle.std.proofs.Common.{◌≡◌, ℕ, zero, suc, ◌+◌, ◌≤◌, Bool, List, [], ◌∷◌, ◌++◌, length, map, take, Some, sym, ap, ◌∙◌, arith}
use Rattle.std.specs.Prelude.{slice_get}
use Rattle.std.proofs.lemmas.List.{map-append, take_all}

take_one : {A : Type 0} (xs : List A) (i : ℕ) (x : A) → Some x ≡ slice_get xs i → take (suc i) xs ≡ take i xs ++ x ∷ []
take_one [] i x at = absurd (cc)
take_one {A} (y ∷ ys) zero x at = let same : y ≡ x = cc in ap (λ (z : A). z ∷ []) same
take_one {A} (y ∷ ys) (suc i) x at = ap (λ (l : List A). y ∷ l) (take_one ys i x at)

pub next_flag : {A : Type 0} (order : List (A × Bool)) (at : ℕ) (k : A × Bool) → Some k ≡ slice_get order at → (flags next : List Bool) → next ≡ flags ++ k.1 ∷ [] → flags ≡ map (λ (k : A × Bool). k.1) (take at order) → next ≡ map (λ (k : A × Bool). k.1) (take (at + 1) order)
next_flag {A} order at k there flags next n h =
    let f = λ (k : A × Bool). k.1 in
    let e : at + 1 ≡ suc at = omega arith in
    n ∙ ap (λ l. l ++ k.1 ∷ []) h ∙ sym (map-append f (take at order) (k ∷ []))
    ∙ ap (map f) (sym (take_one order at k there))
    ∙ ap (λ n. map f (take n order)) (sym e)

pub all_flags : {A : Type 0} (order : List (A × Bool)) (at : ℕ) → length order ≤ at → (flags : List Bool) → flags ≡ map (λ (k : A × Bool). k.1) (take at order) → flags ≡ map (λ (k : A × Bool). k.1) order
all_flags {A} order at past flags h = h ∙ ap (map (λ (k : A × Bool). k.1)) (take_all at order past)
