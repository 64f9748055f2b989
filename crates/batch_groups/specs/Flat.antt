-- Keys that are compared where they lie.
use Rattle.std.specs.Prelude.{◌≡◌, ℕ, ◌<◌, false, List, All, Some, length, map, slice_get}
use Rattle.value_meaning.specs.Val.{Val}
use Rattle.block_meaning.specs.Tables.{Table}
use Rattle.program_meaning.specs.Registers.{value_at}
use Rattle.lane_base.specs.Shown.{Shown, is_nested, value_under, IsLegal}
use Rattle.lane_base.specs.Registers.{AreLegal}
use Rattle.lane_ssa.specs.Frames.{FrameView, state_at}

-- the values of the registers in a lane
abbrev pub values_in : Table → FrameView → List ℕ → ℕ → List Val
values_in table frame registers lane = map (value_at (state_at table frame lane)) registers

-- none is a list or a struct
abbrev pub IsFlat : Table → FrameView → ℕ → ℕ → Type 0
IsFlat table frame lane r = is_nested (value_at (state_at table frame lane) r) ≡ false

-- the registers are there, what they show is legal under the table, and no list or struct is among it
pub record AreFlat (table : Table) (frame : FrameView) (registers : List ℕ) (lane : ℕ) : Type 0 where
  pub below : lane < 16
  pub legal : All (AreLegal table) frame.values
  pub within : All (λ r. r < length frame.values) registers
  pub flat : All (IsFlat table frame lane) registers

-- what the first of the registers shows, where there is one
pub record ShowsFirst (table : Table) (frame : FrameView) (registers : List ℕ) (lane : ℕ) (first : Shown) : Type 0 where
  pub legal : IsLegal table first
  pub value : (r : ℕ) → Some r ≡ slice_get registers 0 → value_under table first ≡ value_at (state_at table frame lane) r
