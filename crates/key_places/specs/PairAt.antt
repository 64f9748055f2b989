-- A pair of a struct by its place.
use Rattle.std.specs.Prelude.{◌≡◌, ℕ, List, Some, slice_get}
use Rattle.value_meaning.specs.Val.{Val}
use Rattle.value_meaning.specs.Pairs.{Pairs}

-- the pair at a place is this name with this value
pub record IsPairAt (fs : Pairs) (i : ℕ) (name : List ℕ) (v : Val) : Type 0 where
  pub found : let f : List ℕ × Val = (name, v) in slice_get fs i ≡ Some f
