use Rattle.std.proofs.Common.{◌+◌, ◌*◌}
use Rattle.tree_meaning.specs.Tree.{size, exs, exs_size, arms, arms_size}
use Rattle.query_tree.specs.View.{view}
use Rattle.print_meaning.specs.Texts.{text}
use Rattle.print_meaning.proofs.PrintedLists.{Joins, Lists, arm_text}
use Rattle.sql_print.proofs.exprs.+put.Given as goal

abbrev pub decreases-put_expr : goal.decreases-put_expr
decreases-put_expr l = 3 * size (view l.expr.now)

abbrev pub decreases-put_within : goal.decreases-put_within
decreases-put_within l = 3 * size l.of.now + 1

abbrev pub decreases-put_neg : goal.decreases-put_neg
decreases-put_neg l = 3 * size l.of.now + 2

abbrev pub decreases-put_not : goal.decreases-put_not
decreases-put_not l = 3 * size l.of.now + 2

abbrev pub decreases-put_bin : goal.decreases-put_bin
decreases-put_bin l = 3 * (size l.left.now + size l.right.now) + 2

abbrev pub decreases-put_is : goal.decreases-put_is
decreases-put_is l = 3 * size l.of.now + 2

abbrev pub decreases-put_in : goal.decreases-put_in
decreases-put_in l = 3 * (size l.of.now + exs_size (exs l.list.now)) + 2

abbrev pub decreases-put_between : goal.decreases-put_between
decreases-put_between l = 3 * (size l.of.now + size l.low.now + size l.high.now) + 2

abbrev pub decreases-put_match : goal.decreases-put_match
decreases-put_match l = 3 * size l.of.now + 2

abbrev pub decreases-put_case : goal.decreases-put_case
decreases-put_case l = 3 * (arms_size (arms l.arms.now) + size l.other.now) + 2

abbrev pub decreases-put_cast : goal.decreases-put_cast
decreases-put_cast l = 3 * size l.of.now + 2

abbrev pub decreases-put_call : goal.decreases-put_call
decreases-put_call l = 3 * exs_size (exs l.args.now) + 2

abbrev pub decreases-put_trunc : goal.decreases-put_trunc
decreases-put_trunc l = 3 * size l.of.now + 2

abbrev pub decreases-put_extract : goal.decreases-put_extract
decreases-put_extract l = 3 * size l.of.now + 2

abbrev pub decreases-put_shift : goal.decreases-put_shift
decreases-put_shift l = 3 * (size l.count.now + size l.of.now) + 2

abbrev pub decreases-put_agg : goal.decreases-put_agg
decreases-put_agg l = 3 * size l.of.now + 2

abbrev pub decreases-put_listed : goal.decreases-put_listed
decreases-put_listed l = 3 * size l.of.now + 1

abbrev pub decreases-put_exprs : goal.decreases-put_exprs
decreases-put_exprs l = 3 * exs_size (exs l.list.now) + 1

abbrev pub decreases-put_arm : goal.decreases-put_arm
decreases-put_arm l = 3 * (size l.arm.now.test + size l.arm.now.value) + 2

abbrev pub decreases-put_arms : goal.decreases-put_arms
decreases-put_arms l = 3 * arms_size (arms l.list.now) + 1

abbrev pub invariant-put_exprs-loop-at : goal.invariant-put_exprs-loop-at
invariant-put_exprs-loop-at l = Lists (text l.row) l.fn.text l.text l.at l.list

abbrev pub invariant-put_arms-loop-at : goal.invariant-put_arms-loop-at
invariant-put_arms-loop-at l = Joins (arm_text l.row) l.fn.text l.text l.at l.list
