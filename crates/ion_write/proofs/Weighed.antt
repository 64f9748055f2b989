-- Steps of the loops that weigh.
use Rattle.std.proofs.Common.{◌≡◌, ℕ, ◌+◌, List, length, drop, ap, arith}
use Rattle.value_meaning.specs.Val.{Val, fields}
use Rattle.value_meaning.specs.Pairs.{Pairs}
use Rattle.write_meaning.specs.Weights.{weight, pair_weights}
use Rattle.ion_write.specs.Counts.{raised}
use Rattle.ion_write.specs.PairAt.{IsPairAt}
use Rattle.ion_write.proofs.Smaller.{pairs_from}

-- one more pair is weighed
pub pair_weighed : (fs : Pairs) (i now next all : ℕ) (name : List ℕ) (v : Val) → IsPairAt fs i name v → next ≡ raised (raised now (9 + length name)) (weight v)
    → raised now (pair_weights (fields (drop i fs))) ≡ all → raised next (pair_weights (fields (drop (i + 1) fs))) ≡ all
pair_weighed fs i now next all name v p is sofar = omega (arith, is, sofar, ap pair_weights (pairs_from fs i name v p))
