-- Lists and the chains within values are each other.
use Rattle.std.proofs.Common.{◌≡◌, ℕ, List, [], ◌∷◌, refl}
use Rattle.value_meaning.specs.Val.{Val, Vals, Fields, vals, items, fields, pairs, no_vals, val, no_fields, field}

pub items-vals : (vs : List Val) → items (vals vs) ≡ vs
items-vals [] = refl
items-vals (v ∷ vs) = λ i. v ∷ items-vals vs i

pub vals-items : (vs : Vals) → vals (items vs) ≡ vs
vals-items no_vals = refl
vals-items (val v vs) = λ i. val v (vals-items vs i)

pub pairs-fields : (fs : List (List ℕ × Val)) → pairs (fields fs) ≡ fs
pairs-fields [] = refl
pairs-fields (f ∷ fs) = λ i. f ∷ pairs-fields fs i

pub fields-pairs : (fs : Fields) → fields (pairs fs) ≡ fs
fields-pairs no_fields = refl
fields-pairs (field n v fs) = λ i. field n v (fields-pairs fs i)
