-- What a tally counts.
use Rattle.std.specs.Prelude.{ℕ, ◌+◌, ◌-◌, ◌^◌, min}

-- chunks that were run, and rows of theirs that passed
pub record Counts : Type 0 where
  pub chunks : ℕ
  pub kept : ℕ

-- so many more, up to the greatest number of 64 bits
abbrev pub counted : ℕ → ℕ → ℕ
counted n more = min (n + more) (2 ^ 64 - 1)
