use Rattle.std.proofs.Common.{arith}
use Rattle.query_tree.specs.View.{arm_view}
use Rattle.query_walk.proofs.Smaller.{item_smaller, arm_smaller, taken_more}
use Rattle.query_walk.proofs.copies.+copy.Goals as goal

pub copy_list-copy_expr-requires : goal.copy_list-copy_expr-requires
copy_list-copy_expr-requires t c =
    let smaller = item_smaller c.args.list.now c.loop-at.at c.item.result.now c.item.ensures in
    (omega (arith, smaller, c.decreases), tt)

pub copy_arms-copy_arm-requires : goal.copy_arms-copy_arm-requires
copy_arms-copy_arm-requires t c =
    let smaller = arm_smaller c.args.arms.now c.loop-at.at (arm_view c.arm.result.now) c.arm.ensures in
    (omega (arith, smaller, c.decreases), tt)

pub copy_list-loop-at-preserved : goal.copy_list-loop-at-preserved
copy_list-loop-at-preserved t c = taken_more c.loop-at.all c.push.new.self c.args.list.now c.loop-at.at c.item.result.now c.in_ok-copy_expr.field-0 c.item.ensures c.in_ok-copy_expr.ensures c.in_ok-push.ensures.ok c.loop-at.invariant

pub copy_arms-loop-at-preserved : goal.copy_arms-loop-at-preserved
copy_arms-loop-at-preserved t c = taken_more c.loop-at.all c.push.new.self c.args.arms.now c.loop-at.at (arm_view c.arm.result.now) (arm_view c.in_ok-copy_arm.field-0) c.arm.ensures c.in_ok-copy_arm.ensures c.in_ok-push.ensures.ok c.loop-at.invariant
