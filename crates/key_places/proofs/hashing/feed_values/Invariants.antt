use Rattle.std.proofs.Common.{◌≡◌, drop}
use Rattle.snel_values.specs.View.{views}
use Rattle.value_meaning.specs.Val.{vals}
use Rattle.key_places.specs.Hashes.{fed_vals}
use Rattle.key_places.proofs.hashing.feed_values.Given as goal

abbrev pub invariant-loop-value : goal.invariant-loop-value
invariant-loop-value l =
    fed_vals (vals (views (drop l.value-index l.values))) l.state ≡ fed_vals (vals (views l.values)) l.initial.state
