-- The first rows of those that were put, in the order of their sort keys.
use Rattle.std.specs.Prelude.{◌≡◌, ℕ, ◌+◌, ◌-◌, ◌^◌, ◌<◌, ◌≤◌, ◌⊎◌, Bool, false, List, [], ◌++◌, length, All, Option, Some, None, IsPermutation}
use Rattle.std.specs.Ordering.{is_lt}
use Rattle.order_limit.specs.Arranged.{Row, AreKeyed}
use Rattle.order_limit.specs.Padded.{padded_cmp}

-- which keys fall, how many rows are held at most, and those that are held, in no order
pub record Top : Type 0 where
  pub falling : List Bool
  pub most : ℕ
  pub held : List Row

abbrev pub no_rows : List Bool → ℕ → Top
no_rows falling most = record { falling = falling; most = most; held = [] }

-- whether a row comes before another by the sort keys
abbrev pub is_before : List Bool → Row → Row → Bool
is_before falling r s = is_lt (padded_cmp falling r.0 s.0)

-- The rows are those that are held and others that were dropped, which is none while there is room, and none of which comes
-- before one that is held.
pub record StandsFor (t : Top) (rows : List Row) : Type 0 where
  pub keyed : AreKeyed t.falling rows
  pub dropped : List Row
  pub permutes : IsPermutation rows (t.held ++ dropped)
  pub room : length t.held < t.most → dropped ≡ []
  pub behind : All (λ s. All (λ r. is_before t.falling s r ≡ false) t.held) dropped

-- so many are never held: with this limit all rows are
abbrev pub no_limit : ℕ
no_limit = 2 ^ 64 - 1

-- So many rows are enough to skip some and take at most so many: no row is dropped, or none is taken, or there are as many.
abbrev pub IsEnough : ℕ → ℕ → Option ℕ → Type 0
IsEnough most skip None = most ≡ no_limit
IsEnough most skip (Some n) = (most ≡ no_limit) ⊎ ((n ≡ 0) ⊎ (skip + n ≤ most))
