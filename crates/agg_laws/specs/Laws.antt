-- Laws of partial aggregates that stand for lists.
use Rattle.std.specs.Prelude.{◌≡◌, List, IsPermutation}
use Rattle.value_meaning.specs.Val.{Val}
use Rattle.tree_meaning.specs.declared.AggName.{AggName}
use Rattle.agg_meaning.specs.Aggregates.{aggregate}
use Rattle.agg_meaning.specs.Partials.{Partial, StandsFor, finished}

-- a partial that stands for a list stands for each permutation of it
abbrev pub PartialsStandForPermutations : Type 0
PartialsStandForPermutations =
    (n : AggName) (s : Partial) (vs ws : List Val) → StandsFor n s vs → IsPermutation vs ws → StandsFor n s ws

-- its value is that of the aggregate over each list for which it stands
abbrev pub PartialsGiveAggregates : Type 0
PartialsGiveAggregates = (n : AggName) (s : Partial) (vs : List Val) → StandsFor n s vs → finished n s ≡ aggregate n vs
