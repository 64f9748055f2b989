-- Laws of the aggregates.
use Rattle.std.specs.Prelude.{◌≡◌, ◌↔◌, true, ◌++◌, ℤ, ◌≤ℤ◌, List, Some, Contains, All, IsPermutation}
use Rattle.std.specs.List.{reduce}
use Rattle.std.specs.Int.{int_min, int_max}
use Rattle.value_meaning.specs.Val.{Val}
use Rattle.tree_meaning.specs.declared.AggName.{AggName}
use Rattle.agg_meaning.specs.Keys.{same_keys}
use Rattle.agg_meaning.specs.Aggregates.{aggregate}
use Rattle.agg_meaning.specs.Partials.{partial_of, joined, finished}

-- the order of the values is free
abbrev pub AggregatesAreUnordered : Type 0
AggregatesAreUnordered = (n : AggName) (vs ws : List Val) → IsPermutation vs ws → aggregate n ws ≡ aggregate n vs

-- a partial has the aggregate's value, and one for each order of the values
abbrev pub PartialsHaveTheValue : Type 0
PartialsHaveTheValue = (n : AggName) (vs : List Val) → finished n (partial_of n vs) ≡ aggregate n vs

abbrev pub PartialsAreUnordered : Type 0
PartialsAreUnordered = (n : AggName) (vs ws : List Val) → IsPermutation vs ws → partial_of n ws ≡ partial_of n vs

-- the partial of a list that is made of two is made of theirs
abbrev pub PartialsJoin : Type 0
PartialsJoin = (n : AggName) (vs ws : List Val) → partial_of n (vs ++ ws) ≡ joined n (partial_of n vs) (partial_of n ws)

-- MIN is among the numbers, and none is below it; MAX the same from above
abbrev pub LeastIsLeast : Type 0
LeastIsLeast = (ns : List ℤ) (n : ℤ) → reduce int_min ns ≡ Some n → Contains ns n × All (λ m. n ≤ℤ m) ns

abbrev pub GreatestIsGreatest : Type 0
GreatestIsGreatest = (ns : List ℤ) (n : ℤ) → reduce int_max ns ≡ Some n → Contains ns n × All (λ m. m ≤ℤ n) ns

-- lists of keys are the same exactly where they are equal, so a group has one value for each key
abbrev pub SameKeysAreEqual : Type 0
SameKeysAreEqual = (vs ws : List Val) → (same_keys vs ws ≡ true) ↔ (vs ≡ ws)
