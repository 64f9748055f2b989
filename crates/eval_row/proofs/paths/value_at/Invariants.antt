use Rattle.std.proofs.Common.{◌≡◌, map, drop}
use Rattle.snel_values.specs.View.{view}
use Rattle.query_tree.specs.View.{step_view}
use Rattle.eval_meaning.specs.Paths.{path_of}
use Rattle.eval_row.proofs.paths.value_at.Given as goal

abbrev pub invariant-loop-i : goal.invariant-loop-i
invariant-loop-i l = path_of (map step_view (drop l.i l.steps)) (view l.at) ≡ path_of (map step_view l.steps) (view l.fn.from)
