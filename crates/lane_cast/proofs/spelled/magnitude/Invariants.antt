use Rattle.std.proofs.Common.{◌≡◌, ◌≤◌, drop}
use Rattle.tree_meaning.specs.Decimals.{decimal_on}
use Rattle.lane_cast.proofs.spelled.magnitude.Given as goal

abbrev pub invariant-loop-digit : goal.invariant-loop-digit
invariant-loop-digit l =
    (l.number ≤ 9_223_372_036_854_775_808) × (decimal_on 0 l.digits ≡ decimal_on l.number (drop l.digit-index l.digits))
