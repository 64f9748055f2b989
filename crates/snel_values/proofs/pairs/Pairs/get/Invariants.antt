use Rattle.std.proofs.Common.{◌≡◌, map, drop}
use Rattle.snel_values.specs.View.{pair_view}
use Rattle.value_meaning.specs.Pairs.{value_of}
use Rattle.snel_values.proofs.pairs.Pairs.get.Given as goal

abbrev pub invariant-loop-pair : goal.invariant-loop-pair
invariant-loop-pair l = value_of l.name (map pair_view l.pair-items) ≡ value_of l.name (drop l.pair-index (map pair_view l.pair-items))
