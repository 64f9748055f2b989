use Rattle.std.proofs.Common.{◌≡◌, ◌*◌, ◌+◌, take}
use Rattle.tree_meaning.specs.Tree.{size, exs, exs_size, arms, arms_size}
use Rattle.query_tree.specs.View.{view}
use Rattle.query_walk.proofs.copies.+copy.Given as goal

abbrev pub decreases-copy_node : goal.decreases-copy_node
decreases-copy_node l = 2 * size (view l.expr.now)

abbrev pub decreases-copy_expr : goal.decreases-copy_expr
decreases-copy_expr l = 2 * size l.expr.now + 1

abbrev pub decreases-copy_list : goal.decreases-copy_list
decreases-copy_list l = 2 * exs_size (exs l.list.now) + 1

abbrev pub decreases-copy_arm : goal.decreases-copy_arm
decreases-copy_arm l = 2 * (size l.arm.now.test + size l.arm.now.value) + 2

abbrev pub decreases-copy_arms : goal.decreases-copy_arms
decreases-copy_arms l = 2 * arms_size (arms l.arms.now) + 1

abbrev pub invariant-copy_arms-loop-at : goal.invariant-copy_arms-loop-at
invariant-copy_arms-loop-at l = l.all ≡ take l.at l.arms

abbrev pub invariant-copy_list-loop-at : goal.invariant-copy_list-loop-at
invariant-copy_list-loop-at l = l.all ≡ take l.at l.list
