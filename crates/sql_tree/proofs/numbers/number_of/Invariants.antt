use Rattle.std.proofs.Common.{◌≡◌, ◌≤◌, drop}
use Rattle.tree_meaning.specs.Decimals.{decimal_on}
use Rattle.sql_tree.proofs.numbers.number_of.Given as goal

abbrev pub invariant-loop-digit : goal.invariant-loop-digit
invariant-loop-digit l =
    (l.number ≤ 9_223_372_036_854_775_807) × (decimal_on 0 l.digits ≡ decimal_on l.number (drop l.digit-index l.digits))
