-- What one instruction is made from.
use Rattle.std.specs.Prelude.{ℕ, ◌<◌, ◌^◌}
use Rattle.block_meaning.specs.Tables.{Table, last_symbol, TextsRise}
use Rattle.eval_meaning.specs.Pair.{alone}
use Rattle.program_meaning.specs.Registers.{Lane}
use Rattle.lane_base.specs.declared.lanes.Lanes.{Lanes}
use Rattle.lane_base.specs.Bits.{has}
use Rattle.lane_base.specs.Registers.{value_at}

-- what a lane is given: whether it is among the live ones, and its row
abbrev pub lane_at : Table → ℕ → Lanes → ℕ → Lane
lane_at table live rows i = record { live = has live i; pair = alone (value_at table rows i) }

-- The texts of the table rise, and their numbers have 32 bits.
pub record IsReadable (table : Table) : Type 0 where
  pub rise : TextsRise table
  pub few : last_symbol table < 2 ^ 32
