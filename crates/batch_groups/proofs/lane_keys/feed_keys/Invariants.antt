use Rattle.std.proofs.Common.{◌≡◌, drop}
use Rattle.value_meaning.specs.Val.{vals}
use Rattle.block_meaning.specs.Tables.{Table}
use Rattle.key_places.specs.Hashes.{fed_vals}
use Rattle.batch_groups.specs.Flat.{values_in}
use Rattle.batch_groups.proofs.lane_keys.feed_keys.Given as goal

abbrev pub invariant-loop-at : goal.invariant-loop-at
invariant-loop-at l =
    (table : Table)
    → fed_vals (vals (drop l.at (values_in table l.fn.frame l.fn.registers l.fn.lane))) l.state
    ≡ fed_vals (vals (values_in table l.fn.frame l.fn.registers l.fn.lane)) l.fn.state
