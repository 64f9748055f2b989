use Rattle.std.proofs.Common.{map}
use Rattle.query_tree.specs.View.{step_view}
use Rattle.print_meaning.proofs.PrintedLists.{Joins, step_text}
use Rattle.sql_print.proofs.paths.put_steps.Given as goal

abbrev pub invariant-loop-at : goal.invariant-loop-at
invariant-loop-at l = Joins step_text l.fn.text l.text l.at (map step_view l.steps)
