-- Numbers and truth values that may be absent.
use Rattle.std.specs.Prelude.{ℕ, ℤ, Bool, Option, Some, None, nat_le, if◌then◌else◌}
use Rattle.value_meaning.specs.Val.{Val, missing, truth, int}

-- the number, or MISSING where there is none
abbrev pub integer_or_missing : Option ℤ → Val
integer_or_missing None = missing
integer_or_missing (Some n) = int n

-- the truth value, or MISSING where there is none
abbrev pub truth_or_missing : Option Bool → Val
truth_or_missing None = missing
truth_or_missing (Some b) = truth b

-- the number, if it is at most 2^63, as large as the least number of a row is small
abbrev pub up_to_limit : ℕ → Option ℕ
up_to_limit n = if nat_le n 9_223_372_036_854_775_808 then Some n else None
