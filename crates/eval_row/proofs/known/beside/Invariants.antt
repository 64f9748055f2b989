use Rattle.std.proofs.Common.{◌≡◌, drop}
use Rattle.made_meaning.specs.OverGroups.{value_beside}
use Rattle.eval_row.proofs.known.beside.Given as goal

abbrev pub invariant-loop-at : goal.invariant-loop-at
invariant-loop-at l = value_beside (drop l.at l.exprs) (drop l.at l.values) l.of ≡ value_beside l.exprs l.values l.of
