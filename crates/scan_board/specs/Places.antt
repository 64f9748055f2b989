-- 64 places in a row, and the values in them.
use Rattle.std.specs.Prelude.{◌≡◌, ◌≤◌, true, Option, List, length, is_some}
use Rattle.std.specs.List.{filter_map, list_all}
use Rattle.smallvec.specs.SmallVec.{SmallVec}

module _ {A : Type 0} where
  -- the values that are there, in order
  abbrev pub present : List (Option A) → List A
  present xs = filter_map (λ x. x) xs

  -- all lie in the 64 places, and each that is in use has a value
  pub record IsInPlace (v : SmallVec (Option A)) : Type 0 where
    pub room : v.capacity ≡ 64
    pub few : length v.items ≤ 64
    pub whole : list_all is_some v.items ≡ true
