-- The pairs of a struct: names strictly increasing, by bytes.
use Rattle.std.specs.Prelude.{◌≡◌, ℕ, List, [], ◌∷◌, Option, None, Some, if◌then◌else◌, nat_eq}
use Rattle.std.specs.declared.cmp.Ordering.TheVariants.{Less}
use Rattle.std.specs.Ordering.{nat_cmp}
use Rattle.std.specs.Cmp.Lexicographic.{slice_cmp, pointwise}
use Rattle.value_meaning.specs.Val.{Val}

abbrev pub Pairs : Type 0
Pairs = List (List ℕ × Val)

abbrev pub IsBelow : List ℕ → List ℕ → Type 0
IsBelow a b = slice_cmp nat_cmp a b ≡ Less

-- each name is below the next
abbrev pub NamesRise : Pairs → Type 0
NamesRise [] = Unit {0}
NamesRise (f ∷ []) = Unit {0}
NamesRise (f ∷ g ∷ fs) = IsBelow f.0 g.0 × NamesRise (g ∷ fs)

-- the name is above the last name
abbrev pub IsAboveLast : List ℕ → Pairs → Type 0
IsAboveLast n [] = Unit {0}
IsAboveLast n (f ∷ []) = IsBelow f.0 n
IsAboveLast n (f ∷ g ∷ fs) = IsAboveLast n (g ∷ fs)

-- the value of the pair with that name
abbrev pub value_of : List ℕ → Pairs → Option Val
value_of n [] = None
value_of n (f ∷ fs) = if pointwise nat_eq f.0 n then Some f.1 else value_of n fs

-- the last name
abbrev pub last_name : Pairs → Option (List ℕ)
last_name [] = None
last_name (f ∷ []) = Some f.0
last_name (f ∷ g ∷ fs) = last_name (g ∷ fs)
