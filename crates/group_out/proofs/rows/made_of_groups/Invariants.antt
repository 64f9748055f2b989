use Rattle.std.proofs.Common.{◌≡◌, ◌++◌, drop}
use Rattle.group_out.specs.Values.{made_of_rows}
use Rattle.group_out.proofs.rows.made_of_groups.Given as goal

abbrev pub invariant-loop-at : goal.invariant-loop-at
invariant-loop-at l = l.made ++ made_of_rows l.checked (drop l.at l.rows) ≡ made_of_rows l.checked l.rows
