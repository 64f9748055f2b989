-- Times moved by counts of a length.
use Rattle.std.specs.Prelude.{◌≡◌, ℕ, ℤ, pos, ◌+ℤ◌, ◌*ℤ◌, true, List}
use Rattle.time_meaning.specs.Moments.{is_time}
use Rattle.lane_base.specs.Registers.{number_at}

-- the time of a lane plus the count of the lane times the length
abbrev pub moved_at : ℕ → List ℤ → List ℤ → ℕ → ℤ
moved_at length counts times k = number_at times k +ℤ number_at counts k *ℤ pos length

-- the number is that time, if the calendar's range has it
abbrev pub IsMoved : ℕ → List ℤ → List ℤ → ℕ → ℤ → Type 0
IsMoved length counts times k z = is_time (moved_at length counts times k) ≡ true → z ≡ moved_at length counts times k
