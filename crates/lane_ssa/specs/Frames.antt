-- A frame as callers see it, and what its registers hold in each lane.
use Rattle.std.specs.Prelude.{ℕ, List, map, Option}
use Rattle.block_meaning.specs.Tables.{Table}
use Rattle.program_meaning.specs.Registers.{State}
use Rattle.program_meaning.specs.Jobs.{Job}
use Rattle.lane_base.specs.declared.mask.LaneMask.{LaneMask}
use Rattle.lane_base.specs.declared.lanes.Lanes.{Lanes}
use Rattle.lane_base.specs.Bits.{has}
use Rattle.lane_base.specs.Registers.{value_at}

pub record FrameView : Type 0 where
  pub job : Job
  -- the number of the name that each instruction asks for
  pub symbols : List (Option ℕ)
  pub masks : List LaneMask
  pub values : List Lanes
  -- the lanes that passed, as a mask
  pub passed : ℕ
  -- chunks that were run, and rows of theirs that passed
  pub chunks : ℕ
  pub kept : ℕ

-- what registers hold in a lane, under the table
abbrev pub registers_at : Table → List LaneMask → List Lanes → ℕ → State
registers_at table masks values i = record { masks = map (λ (m : LaneMask). has m.0 i) masks; values = map (λ l. value_at table l i) values }

abbrev pub state_at : Table → FrameView → ℕ → State
state_at table f i = registers_at table f.masks f.values i
