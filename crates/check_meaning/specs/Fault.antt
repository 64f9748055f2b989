-- Why a query that was read isn't accepted, in the order in which a query with several faults is refused.
use Rattle.std.specs.Prelude.{ℕ}
use Rattle.check_meaning.specs.Limit.{Limit}
use Rattle.check_meaning.specs.Place.{Place}

pub data Fault : Type 0 where
  -- this limit is passed
  too_many : Limit → Fault
  -- an aggregate stands where none may
  nested : Place → Fault
  -- in a grouped query, what stands there depends on single rows
  not_grouped : Place → Fault
  -- in a grouped query, what stands there takes a function that isn't computed over groups
  over_groups : Place → Fault
  -- an earlier output has the name of this one
  same_name : ℕ → Fault
  -- this order key is the number of no output
  no_such_order : ℕ → Fault
