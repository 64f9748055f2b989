use Rattle.std.proofs.Common.{◌≡◌, drop}
use Rattle.std.specs.List.{list_any}
use Rattle.check_meaning.specs.Same.{same_ex}
use Rattle.check_meaning.specs.Aggregates.{is_among}
use Rattle.query_walk.proofs.equality.is_among.Given as goal

abbrev pub invariant-loop-at : goal.invariant-loop-at
invariant-loop-at l = is_among l.list l.expr ≡ list_any (same_ex l.expr) (drop l.at l.list)
