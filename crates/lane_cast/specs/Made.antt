-- Numbers that were made lane by lane.
use Rattle.std.specs.Prelude.{ℕ, ℤ, Bool, cond}
use Rattle.value_meaning.specs.Val.{Val, missing, int}
use Rattle.lane_base.specs.Bits.{has}
use Rattle.lane_base.specs.Registers.{number_at}
use Rattle.lane_cast.specs.declared.numbers.Made.{Made}

-- the number where there is one, else MISSING
abbrev pub number_if : Bool → ℤ → Val
number_if is_made n = cond is_made (int n) missing

-- the same, of a lane
abbrev pub made_at : Made → ℕ → Val
made_at made k = number_if (has made.ok.0 k) (number_at made.nums.lanes k)
