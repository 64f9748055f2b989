use Rattle.std.proofs.Common.{All, take}
use Rattle.block_meaning.specs.Tables.{Table}
use Rattle.lane_base.specs.Registers.{AreLegal}
use Rattle.batch_groups.specs.Flat.{IsFlat}
use Rattle.batch_groups.proofs.lane_keys.are_flat.Given as goal

abbrev pub invariant-loop-at : goal.invariant-loop-at
invariant-loop-at l =
    (table : Table) → All (AreLegal table) l.fn.frame.values
    → All (IsFlat table l.fn.frame l.fn.lane) (take l.at l.fn.registers)
