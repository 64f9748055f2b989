-- How many rows are held for an answer that is sorted.
use Rattle.std.specs.Prelude.{◌≡◌, ℕ, Bool, List, ⊤, Option, Some, None}
use Rattle.order_limit.specs.Top.{Top, no_rows, IsEnough}

-- so many rows are enough, if a number is said
abbrev pub IsEnoughIfAny : Option ℕ → ℕ → Option ℕ → Type 0
IsEnoughIfAny (Some most) skip take = IsEnough most skip take
IsEnoughIfAny None skip take = ⊤

-- no rows, with room for enough of them
pub record IsEmptyTop (flags : List Bool) (skip : ℕ) (take : Option ℕ) (t : Top) : Type 0 where
  pub most : ℕ
  pub enough : IsEnough most skip take
  pub are : t ≡ no_rows flags most
