-- Counts that outside objects keep, and when an answer other than Ok may come. A count is a u64: at its end it stands still.
use Rattle.std.specs.Prelude.{ℕ, ◌≡◌, ◌+◌, ◌-◌, ◌^◌, ◌≤◌, min, Result, OnOk}

-- the count, raised by n
abbrev pub raised : ℕ → ℕ → ℕ
raised before n = min (before + n) (2 ^ 64 - 1)

-- the count rose, or stands at its end
abbrev pub Rose : ℕ → ℕ → Type 0
Rose before now = raised before 1 ≤ now

-- A count that doesn't fall, and an answer that comes only where the count rose or stands at its end.
pub record HasCause (before now : ℕ) (answer : Type 0) : Type 0 where
  pub later : before ≤ now
  pub rose : answer → Rose before now

-- A count of bytes that doesn't fall, and rises by n at Ok and by at most n at an error.
pub record Takes {T E : Type 0} (before now n : ℕ) (result : Result T E) : Type 0 where
  pub later : before ≤ now
  pub most : now ≤ raised before n
  pub all : OnOk result (now ≡ raised before n)
