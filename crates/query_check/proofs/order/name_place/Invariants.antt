use Rattle.std.proofs.Common.{◌≡◌, drop}
use Rattle.std.specs.List.{position_from}
use Rattle.std.specs.Str.{bytes_eq}
use Rattle.query_check.proofs.order.name_place.Given as goal

abbrev pub invariant-loop-at : goal.invariant-loop-at
invariant-loop-at l = position_from (bytes_eq l.name) 0 l.names ≡ position_from (bytes_eq l.name) l.at (drop l.at l.names)
