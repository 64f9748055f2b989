-- What a query has at most a number of, in the order in which a query that has too much is refused.
use Rattle.std.specs.Prelude.{ℕ}

pub data Limit : Type 0 where
  outputs : Limit
  group_keys : Limit
  order_keys : Limit
  steps : Limit
  aggregates : Limit

abbrev pub most : Limit → ℕ
most outputs = 256
most group_keys = 16
most order_keys = 16
-- of one path
most steps = 16
most aggregates = 64
