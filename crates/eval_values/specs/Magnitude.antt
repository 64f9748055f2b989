-- Numbers as large as the least number of a row is small.
use Rattle.std.specs.Prelude.{ℕ, Option, Some, None, nat_le, if◌then◌else◌}

-- the number, if it is at most 2^63
abbrev pub up_to_limit : ℕ → Option ℕ
up_to_limit n = if nat_le n 9_223_372_036_854_775_808 then Some n else None
