-- As many rows were made as lines were compared.
use Rattle.std.proofs.Common.{◌≡◌}
use Rattle.value_tests.proofs.log_tests.has_rows.Given as goal

abbrev pub invariant-loop-line : goal.invariant-loop-line
invariant-loop-line l = l.log.1 ≡ l.line-index
