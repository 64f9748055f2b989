-- The places of a query where an expression stands. Outputs and keys are counted from 1.
use Rattle.std.specs.Prelude.{ℕ, Bool, true, false}

pub data Place : Type 0 where
  output : ℕ → Place
  -- WHERE
  where_test : Place
  group_key : ℕ → Place
  -- HAVING
  having : Place
  order_key : ℕ → Place

-- Whether what stands there is asked of the rows, before they are grouped. In a grouped query all else is asked of the
-- groups.
abbrev pub is_of_rows : Place → Bool
is_of_rows (output k) = false
is_of_rows where_test = true
is_of_rows (group_key k) = true
is_of_rows having = false
is_of_rows (order_key k) = false
