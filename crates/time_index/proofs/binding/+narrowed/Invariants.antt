use Rattle.std.proofs.Common.{◌≡◌, ◌≤◌}
use Rattle.tree_meaning.specs.Tree.{size}
use Rattle.query_tree.specs.View.{view}
use Rattle.range_meaning.specs.Intervals.{meet}
use Rattle.range_meaning.specs.Binding.{conjuncts, bounds_of_all}
use Rattle.time_index.proofs.binding.+narrowed.Given as goal

abbrev pub decreases-narrowed : goal.decreases-narrowed
decreases-narrowed l = size (view l.filter.now)

abbrev pub decreases-loop-left : goal.decreases-loop-left
decreases-loop-left l = size (view l.rest)

abbrev pub invariant-loop-left : goal.invariant-loop-left
invariant-loop-left l = record {
  smaller : size (view l.rest) ≤ size (view l.filter);
  bounds : meet (bounds_of_all l.field (conjuncts (view l.rest))) l.left_over ≡ meet (bounds_of_all l.field (conjuncts (view l.filter))) l.fn.others;
}
