-- The order by sort keys.
use Rattle.std.proofs.Common.{◌≡◌, ℕ, zero, suc, ◌+◌, ◌<◌, List, [], ◌∷◌, length, get_or, drop, Bool, true, false, refl, sym, ap, ◌∙◌, arith, add-one, drop-cons, Ordering}
use Rattle.std.specs.declared.cmp.Ordering.TheVariants.{Less, Equal, Greater}
use Rattle.std.specs.Bool.{◌==◌}
use Rattle.std.specs.Ordering.{ordering_then, ordering_index}
use Rattle.std.specs.Cmp.{IsTotalOrder}
use Rattle.std.proofs.lemmas.Cmp.{on_total, then_total, back_total}
use mathlib.Core.Bool.{not}
use Rattle.value_meaning.specs.Val.{Val, missing}
use Rattle.value_meaning.proofs.OrderLaws.{val_total}
use Rattle.answer_meaning.specs.Answers.{keys_cmp}
use Rattle.order_limit.specs.Padded.{first, rest, key_cmp, padded_cmp}

tied : (o v p : Ordering) → o ≡ v → not (ordering_index o == 1) ≡ false → ordering_then v p ≡ p
tied o Less p e h = let k : not (ordering_index Less == 1) ≡ false = rw e at h in cc
tied o Greater p e h = let k : not (ordering_index Greater == 1) ≡ false = rw e at h in cc
tied o Equal p e h = refl

decided : (o v p : Ordering) → o ≡ v → not (ordering_index o == 1) ≡ true → ordering_then v p ≡ o
decided o Less p e h = sym e
decided o Greater p e h = sym e
decided o Equal p e h = let k : not (ordering_index Equal == 1) ≡ true = rw e at h in cc

first_drop : (i : ℕ) (vs : List Val) → first (drop i vs) ≡ get_or vs i missing
first_drop zero [] = refl
first_drop zero (v ∷ vs) = refl
first_drop (suc i) [] = refl
first_drop (suc i) (v ∷ vs) = first_drop i vs

rest_drop : (i : ℕ) (vs : List Val) → rest (drop i vs) ≡ drop (suc i) vs
rest_drop zero [] = refl
rest_drop zero (v ∷ vs) = refl
rest_drop (suc i) [] = refl
rest_drop (suc i) (v ∷ vs) = rest_drop i vs

-- from key i on
pub from_key : (falling : List Bool) (vs ws : List Val) (i : ℕ) (d : Bool) → i < length falling → padded_cmp (drop i falling) (drop i vs) (drop i ws) ≡ ordering_then (key_cmp (get_or falling i d) (get_or vs i missing) (get_or ws i missing)) (padded_cmp (drop (i + 1) falling) (drop (i + 1) vs) (drop (i + 1) ws))
from_key falling vs ws i d h =
    ap (λ l. padded_cmp l (drop i vs) (drop i ws)) (drop-cons falling i d h)
    ∙ (λ j. ordering_then (key_cmp (get_or falling i d) (first_drop i vs j) (first_drop i ws j)) (padded_cmp (drop (suc i) falling) (rest_drop i vs j) (rest_drop i ws j)))
    ∙ ap (λ k. ordering_then (key_cmp (get_or falling i d) (get_or vs i missing) (get_or ws i missing)) (padded_cmp (drop k falling) (drop k vs) (drop k ws))) (sym (add-one i))

pub key_tied : (falling : List Bool) (vs ws : List Val) (i : ℕ) (d : Bool) (o : Ordering) → i < length falling → o ≡ key_cmp (get_or falling i d) (get_or vs i missing) (get_or ws i missing) → not (ordering_index o == 1) ≡ false → padded_cmp falling vs ws ≡ padded_cmp (drop i falling) (drop i vs) (drop i ws) → padded_cmp falling vs ws ≡ padded_cmp (drop (i + 1) falling) (drop (i + 1) vs) (drop (i + 1) ws)
key_tied falling vs ws i d o h e t sofar = sofar ∙ from_key falling vs ws i d h ∙ tied o _ _ e t

pub key_decides : (falling : List Bool) (vs ws : List Val) (i : ℕ) (d : Bool) (o : Ordering) → i < length falling → o ≡ key_cmp (get_or falling i d) (get_or vs i missing) (get_or ws i missing) → not (ordering_index o == 1) ≡ true → padded_cmp falling vs ws ≡ padded_cmp (drop i falling) (drop i vs) (drop i ws) → o ≡ padded_cmp falling vs ws
key_decides falling vs ws i d o h e t sofar = sym (sofar ∙ from_key falling vs ws i d h ∙ decided o _ _ e t)

key_total : (falls : Bool) → IsTotalOrder (key_cmp falls)
key_total true = back_total val_total
key_total false = val_total

none_total : IsTotalOrder (padded_cmp [])
none_total = record { antisymm = λ x y. refl; trans = λ x y z h k. cc; congr = λ x y z h. refl }

pub padded_total : (falling : List Bool) → IsTotalOrder (padded_cmp falling)
padded_total [] = none_total
padded_total (f ∷ fs) = then_total (on_total first (key_total f)) (on_total rest (padded_total fs))

-- of as many keys as there are flags both orders are one
pub padded_is : (falling : List Bool) (vs ws : List Val) → length vs ≡ length falling → length ws ≡ length falling → keys_cmp falling vs ws ≡ padded_cmp falling vs ws
padded_is [] vs ws a b = refl
padded_is (f ∷ fs) [] ws a b = absurd (omega arith)
padded_is (f ∷ fs) (v ∷ vs) [] a b = absurd (omega arith)
padded_is (f ∷ fs) (v ∷ vs) (w ∷ ws) a b = ap (ordering_then (key_cmp f v w)) (padded_is fs vs ws (omega arith) (omega arith))
