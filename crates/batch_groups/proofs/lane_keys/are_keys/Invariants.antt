use Rattle.std.proofs.Common.{◌≡◌, drop}
use Rattle.snel_values.specs.View.{views}
use Rattle.block_meaning.specs.Tables.{Table}
use Rattle.agg_meaning.specs.Keys.{same_keys}
use Rattle.batch_groups.specs.Flat.{values_in}
use Rattle.batch_groups.proofs.lane_keys.are_keys.Given as goal

abbrev pub invariant-loop-at : goal.invariant-loop-at
invariant-loop-at l =
    (table : Table)
    → same_keys (values_in table l.fn.frame l.fn.registers l.fn.lane) (views l.fn.values)
    ≡ same_keys (drop l.at (values_in table l.fn.frame l.fn.registers l.fn.lane)) (drop l.at (views l.fn.values))
