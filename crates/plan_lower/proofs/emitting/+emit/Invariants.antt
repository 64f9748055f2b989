use Rattle.std.proofs.Common.{◌*◌, ◌+◌, take}
use Rattle.tree_meaning.specs.Tree.{size, exs, exs_size, arms, arms_size}
use Rattle.query_tree.specs.View.{view}
use Rattle.plan_lower.specs.Emitting.{Chooses, EmitsAll}
use Rattle.plan_lower.proofs.emitting.+emit.Given as goal

abbrev pub decreases-emit_expr : goal.decreases-emit_expr
decreases-emit_expr l = 3 * size (view l.expr.now)

abbrev pub decreases-emit_one : goal.decreases-emit_one
decreases-emit_one l = 3 * size l.of.now + 1

abbrev pub decreases-emit_two : goal.decreases-emit_two
decreases-emit_two l = 3 * (size l.first.now + size l.second.now) + 1

abbrev pub decreases-emit_in : goal.decreases-emit_in
decreases-emit_in l = 3 * (size l.of.now + exs_size (exs l.list.now)) + 1

abbrev pub decreases-emit_between : goal.decreases-emit_between
decreases-emit_between l = 3 * (size l.of.now + size l.low.now + size l.high.now) + 2

abbrev pub decreases-emit_compared : goal.decreases-emit_compared
decreases-emit_compared l = 3 * size l.with.now + 1

abbrev pub decreases-emit_case : goal.decreases-emit_case
decreases-emit_case l = 3 * (arms_size (arms l.list.now) + size l.other.now) + 1

abbrev pub decreases-emit_arm : goal.decreases-emit_arm
decreases-emit_arm l = 3 * (size l.arm.now.test + size l.arm.now.value) + 2

abbrev pub decreases-emit_test : goal.decreases-emit_test
decreases-emit_test l = 3 * size l.test.now + 1

abbrev pub decreases-emit_call : goal.decreases-emit_call
decreases-emit_call l = 3 * exs_size (exs l.args.now) + 1

abbrev pub decreases-emit_list : goal.decreases-emit_list
decreases-emit_list l = 3 * exs_size (exs l.list.now)

abbrev pub invariant-emit_case-loop-at : goal.invariant-emit_case-loop-at
invariant-emit_case-loop-at l = Chooses l.fn.builder l.builder (take l.at l.list) l.mask l.left l.shown

abbrev pub invariant-emit_list-loop-at : goal.invariant-emit_list-loop-at
invariant-emit_list-loop-at l = EmitsAll l.fn.builder l.builder (take l.at l.list) l.mask l.registers
