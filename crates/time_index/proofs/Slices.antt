-- What lies at a place of a slice.
use Rattle.std.proofs.Common.{◌≡◌, ℕ, ◌+◌, ◌-◌, List, length, take, drop, ap, arith, length-drop}
use Rattle.std.proofs.lemmas.List.{take_all}

-- the first of what lies from a place to the end
pub first_of : (k at : ℕ) (bytes : List ℕ) → take k (take (length bytes - at) (drop at bytes)) ≡ take k (drop at bytes)
first_of k at bytes = ap (take k) (take_all (length bytes - at) (drop at bytes) (omega (arith, length-drop at bytes)))

-- what lies from a place on, so many
pub counted : (k at : ℕ) (bytes : List ℕ) → take (at + k - at) (drop at bytes) ≡ take k (drop at bytes)
counted k at bytes = let same : at + k - at ≡ k = omega arith in ap (λ (n : ℕ). take n (drop at bytes)) same
