use Rattle.std.proofs.Common.{◌≡◌, All, map, take}
use Rattle.block_meaning.specs.Tables.{Table}
use Rattle.lane_base.specs.Registers.{AreLegal}
use Rattle.lane_ssa.specs.Frames.{state_at}
use Rattle.hash_agg.specs.Items.{ShowsAll}
use Rattle.batch_groups.specs.Keyed.{operand_at}
use Rattle.batch_groups.proofs.operands.see_operands.Given as goal

abbrev pub invariant-loop-at : goal.invariant-loop-at
invariant-loop-at l =
    (table : Table) → All (AreLegal table) l.fn.frame.values
    → ShowsAll l.shown.items (take l.at (map (operand_at (state_at table l.fn.frame l.fn.lane)) l.fn.aggs))
