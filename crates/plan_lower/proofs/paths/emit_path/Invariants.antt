use Rattle.std.proofs.Common.{map, take}
use Rattle.tree_meaning.specs.Tree.{path}
use Rattle.query_tree.specs.View.{step_view}
use Rattle.plan_lower.specs.Emitting.{Emits}
use Rattle.plan_lower.proofs.paths.emit_path.Given as goal

abbrev pub invariant-loop-at : goal.invariant-loop-at
invariant-loop-at l = Emits l.fn.builder l.builder (path 0 (map step_view (take l.at l.steps))) l.mask l.of
