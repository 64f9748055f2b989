use Rattle.std.proofs.Common.{◌≡◌, drop, take}
use Rattle.std.specs.List.{list_any}
use Rattle.std.specs.Str.{bytes_eq}
use Rattle.query_check.proofs.firsts.stands_before.Given as goal

abbrev pub invariant-loop-before : goal.invariant-loop-before
invariant-loop-before l = list_any (bytes_eq l.name) (take l.at l.names) ≡ list_any (bytes_eq l.name) (drop l.before (take l.at l.names))
