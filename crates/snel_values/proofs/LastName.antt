-- The last name of pairs, and which names are above it.
use Rattle.std.proofs.Common.{◌≡◌, ◌↔◌, ℕ, suc, ◌-◌, List, [], ◌∷◌, length, map, Some, slice_get, refl, sym, ap, ◌∙◌, arith}
use Rattle.value_meaning.specs.Pairs.{Pairs, IsBelow, IsAboveLast, last_name}
use Rattle.snel_values.specs.declared.pairs.Pair.{Pair}
use Rattle.snel_values.specs.View.{pair_view}

one_later : (y z : Pair) (ys : List Pair) → slice_get (y ∷ z ∷ ys) (length (y ∷ z ∷ ys) - 1) ≡ slice_get (z ∷ ys) (length (z ∷ ys) - 1)
one_later y z ys =
    let far : suc (suc (length ys)) - 1 ≡ suc (length ys) = omega arith in
    let near : suc (length ys) - 1 ≡ length ys = omega arith in
    rw (far, near) refl

last_named : (xs : List Pair) (x : Pair) → slice_get xs (length xs - 1) ≡ Some x → last_name (map pair_view xs) ≡ Some x.name
last_named [] x e = cc
last_named (y ∷ []) x e =
    let same : y ≡ x = cc in
    rw same refl
last_named (y ∷ z ∷ ys) x e = last_named (z ∷ ys) x (sym (one_later y z ys) ∙ e)

-- the last pair of a slice of all pairs has the last name
pub last_is : (slice xs : List Pair) (x : Pair) (name : List ℕ) (fs : Pairs) → slice ≡ xs → Some x ≡ slice_get slice (length slice - 1) → name ≡ x.name → map pair_view xs ≡ fs → Some name ≡ last_name fs
last_is slice xs x name fs all at named view =
    let found : last_name (map pair_view slice) ≡ Some x.name = last_named slice x (sym at) in
    ap Some named ∙ sym found ∙ ap (λ (ps : List Pair). last_name (map pair_view ps)) all ∙ ap last_name view

-- a name is above the last where it is above that one
pub above_last : (fs : Pairs) (last name : List ℕ) → Some last ≡ last_name fs → IsBelow last name ↔ IsAboveLast name fs
above_last [] last name e = cc
above_last (f ∷ []) last name e =
    let same : f.0 ≡ last = cc in
    (λ h. rw same h, λ h. rw (← same) h)
above_last (f ∷ g ∷ fs) last name e = above_last (g ∷ fs) last name e
