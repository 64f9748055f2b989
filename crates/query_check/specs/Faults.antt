-- What the limits, places and faults of the code stand for.
use Rattle.std.specs.Prelude.{◌≡◌, Option, Some}
use Rattle.check_meaning.specs.Limit as limit
use Rattle.check_meaning.specs.Limit.{Limit}
use Rattle.check_meaning.specs.Place as place
use Rattle.check_meaning.specs.Place.{Place}
use Rattle.check_meaning.specs.Fault as fault
use Rattle.check_meaning.specs.Fault.{Fault}
use Rattle.query_check.specs.declared.fault.Limit.{Limit as LimitCode}
use Rattle.query_check.specs.declared.fault.Limit.TheVariants as limit_code
use Rattle.query_check.specs.declared.fault.Place.{Place as PlaceCode}
use Rattle.query_check.specs.declared.fault.Place.TheVariants as place_code
use Rattle.query_check.specs.declared.fault.CheckFault.{CheckFault}
use Rattle.query_check.specs.declared.fault.CheckFault.TheVariants as fault_code

abbrev pub limit_view : LimitCode → Limit
limit_view limit_code.Outputs = limit.outputs
limit_view limit_code.GroupKeys = limit.group_keys
limit_view limit_code.OrderKeys = limit.order_keys
limit_view limit_code.Steps = limit.steps
limit_view limit_code.Aggregates = limit.aggregates

abbrev pub place_view : PlaceCode → Place
place_view (place_code.Output k) = place.output k
place_view place_code.Filter = place.where_test
place_view (place_code.Key k) = place.group_key k
place_view place_code.Having = place.having
place_view (place_code.Order k) = place.order_key k

-- the fault is the first of the query; want of memory may come at any time
abbrev pub IsFirst : Option Fault → CheckFault → Type 0
IsFirst first (fault_code.TooMany l) = first ≡ Some (fault.too_many (limit_view l))
IsFirst first (fault_code.Nested p) = first ≡ Some (fault.nested (place_view p))
IsFirst first (fault_code.NotGrouped p) = first ≡ Some (fault.not_grouped (place_view p))
IsFirst first (fault_code.OverGroups p) = first ≡ Some (fault.over_groups (place_view p))
IsFirst first (fault_code.SameName k) = first ≡ Some (fault.same_name k)
IsFirst first (fault_code.NoSuchOrder i) = first ≡ Some (fault.no_such_order i)
IsFirst first fault_code.OutOfMemory = Unit {0}
