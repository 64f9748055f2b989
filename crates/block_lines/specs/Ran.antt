-- What is known of a frame that ran over rows.
use Rattle.std.specs.Prelude.{◌≡◌, ◌<◌, ℕ, List, All, length}
use Rattle.value_meaning.specs.Val.{Val}
use Rattle.block_meaning.specs.Tables.{Table}
use Rattle.program_meaning.specs.Programs.{value_count}
use Rattle.program_meaning.specs.Registers.{HasRun, mask_at}
use Rattle.program_meaning.specs.Simulation.{lanes_of}
use Rattle.lane_base.specs.Bits.{has}
use Rattle.lane_base.specs.Registers.{AreLegal}
use Rattle.lane_ssa.specs.Frames.{FrameView, state_at}

-- The registers show what the frame's program makes of the rows, and the lanes that passed are those of the mask that keeps.
pub record HasRunOver (table : Table) (rows : List Val) (frame : FrameView) : Type 0 where
  pub ran : HasRun frame.job.program (lanes_of rows) (state_at table frame)
  pub legal : All (AreLegal table) frame.values
  pub values : length frame.values ≡ value_count frame.job.program
  pub passed : (i : ℕ) → i < 16 → has frame.passed i ≡ mask_at (state_at table frame i) frame.job.ends.keep
