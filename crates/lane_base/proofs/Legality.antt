-- Lanes that are legal everywhere are legal in each mask.
use Rattle.block_meaning.specs.Tables.{Table}
use Rattle.std.specs.Prelude.{ℕ}
use Rattle.lane_base.specs.declared.lanes.Lanes.{Lanes}
use Rattle.lane_base.specs.Registers.{AreLegal, AreLegalIn}

pub legal_in : (table : Table) (mask : ℕ) (lanes : Lanes) → AreLegal table lanes → AreLegalIn table mask lanes
legal_in table mask lanes h = record { lane = λ i below within. h.lane i below }
