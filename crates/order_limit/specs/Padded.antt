-- The order by sort keys on lists of keys of any length: an absent key is as MISSING. It is total, also where the order of lists
-- of as many keys as there are flags leaves lists of other lengths apart.
use Rattle.std.specs.Prelude.{Bool, List, [], ◌∷◌, if◌then◌else◌}
use Rattle.std.specs.declared.cmp.Ordering.{Ordering}
use Rattle.std.specs.declared.cmp.Ordering.TheVariants.{Equal}
use Rattle.std.specs.Ordering.{ordering_then}
use Rattle.value_meaning.specs.Val.{Val, missing}
use Rattle.value_meaning.specs.Order.{val_cmp}

abbrev pub first : List Val → Val
first [] = missing
first (v ∷ vs) = v

abbrev pub rest : List Val → List Val
rest [] = []
rest (v ∷ vs) = vs

-- the order by one key
abbrev pub key_cmp : Bool → Val → Val → Ordering
key_cmp falls v w = if falls then val_cmp w v else val_cmp v w

abbrev pub padded_cmp : List Bool → List Val → List Val → Ordering
padded_cmp [] vs ws = Equal
padded_cmp (falls ∷ fs) vs ws = ordering_then (key_cmp falls (first vs) (first ws)) (padded_cmp fs (rest vs) (rest ws))
