use Rattle.std.proofs.Common.{ap, sym, subst, arith, length, ◌≤◌}
use Rattle.tree_meaning.specs.Tree.{size, exs, call}
use Rattle.tree_meaning.specs.WellFormed.{IsFormed, TakesArguments}
use Rattle.query_tree.specs.View.{view, arm_view}
use Rattle.plan_lower.specs.Emitting.{Emits}
use Rattle.plan_lower.proofs.Showing.{if_ok, stays_begun, begun_under, keeps_holding}
use Rattle.plan_lower.proofs.FormedParts.{ex_formed, ex_smaller, arm_formed, arm_smaller, counted_operands}
use Rattle.plan_lower.proofs.Operations.{one_shown, two_shown, compared_shown, between_shown, member_shown, call_shown}
use Rattle.plan_lower.proofs.Choices.{arm_picks, first_arm, next_arm, last_arm}
use Rattle.plan_lower.proofs.Outputs.{listed_more}
use Rattle.plan_lower.proofs.emitting.+emit.Goals as goal

pub emit_expr-emit_call-requires : goal.emit_expr-emit_call-requires
emit_expr-emit_call-requires t c =
    let f = c.in-Call.name in
    let es = c.in-Call.args in
    let formed : IsFormed (call f (exs es)) = subst (λ e. IsFormed (view e)) c.in-Call.is c.requires.formed in
    (omega (arith, ap (λ e. size (view e)) c.in-Call.is, c.decreases), (c.requires.begun, (formed.0, counted_operands f es formed.1)))

pub emit_one-returns : goal.emit_one-returns
emit_one-returns t c =
    let old = c.args.builder.now in
    let mid = c.emit_expr.new.builder in
    let m = c.args.mask in
    let a = c.in_ok-of.of in
    let first = subst (λ e. Emits old mid e m a) c.get.ensures c.in_ok-of.ensures in
    if_ok c.put_one.result (λ r. one_shown old m c.requires.begun.mask mid c.put_one.new.builder (view c.args.expr.now) c.args.of.now a r c.requires.operand first) c.put_one.ensures

pub emit_two-returns : goal.emit_two-returns
emit_two-returns t c =
    let old = c.args.builder.now in
    let mid = c.emit_expr.new.builder in
    let end = c.emit_expr-2.new.builder in
    let m = c.args.mask in
    let a = c.in_ok-a.a in
    let b = c.in_ok-b.b in
    let first = subst (λ e. Emits old mid e m a) c.get.ensures c.in_ok-a.ensures in
    let second = subst (λ e. Emits mid end e m b) c.get-2.ensures c.in_ok-b.ensures in
    if_ok c.put_two.result (λ r. two_shown old m c.requires.begun.mask mid end c.put_two.new.builder (view c.args.expr.now) c.args.first.now c.args.second.now a b r c.requires.operands first second) c.put_two.ensures

pub emit_compared-returns : goal.emit_compared-returns
emit_compared-returns t c =
    let old = c.args.builder.now in
    let mid = c.emit_expr.new.builder in
    let m = c.args.mask in
    let b = c.in_ok-with.with in
    let second = subst (λ e. Emits old mid e m b) c.get.ensures c.in_ok-with.ensures in
    if_ok c.put_bin.result (λ r. compared_shown old m c.requires.begun.mask mid c.put_bin.new.builder c.args.op c.args.of b r c.args.with.now c.requires.of second) c.put_bin.ensures

pub emit_between-returns : goal.emit_between-returns
emit_between-returns t c =
    let old = c.args.builder.now in
    let p = c.emit_expr.new.builder in
    let q = c.emit_compared.new.builder in
    let s = c.emit_compared-2.new.builder in
    let m = c.args.mask in
    let a = c.in_ok-of.of in
    let first = subst (λ e. Emits old p e m a) c.get.ensures c.in_ok-of.ensures in
    if_ok c.put_bin.result
    (λ r. between_shown old m c.requires.begun.mask p q s c.put_bin.new.builder c.args.of.now c.args.low.now c.args.high.now a c.in_ok-above.above c.in_ok-below.below r first c.in_ok-above.ensures c.in_ok-below.ensures)
    c.put_bin.ensures

pub emit_in-put_member-requires-clause-some : goal.emit_in-put_member-requires-clause-some
emit_in-put_member-requires-clause-some t c = omega (arith, c.in_ok-members.ensures.count, c.requires.members)

pub emit_in-returns : goal.emit_in-returns
emit_in-returns t c =
    let old = c.args.builder.now in
    let p = c.emit_expr.new.builder in
    let q = c.emit_list.new.builder in
    let m = c.args.mask in
    let a = c.in_ok-of.of in
    let first = subst (λ e. Emits old p e m a) c.get.ensures c.in_ok-of.ensures in
    if_ok c.put_member.result
    (λ r. member_shown old m c.requires.begun.mask p q c.put_member.new.builder c.args.of.now c.args.list.now a r c.in_ok-members.members first c.in_ok-members.ensures)
    c.put_member.ensures

pub emit_call-put_call-requires-clause-count : goal.emit_call-put_call-requires-clause-count
emit_call-put_call-requires-clause-count t c = subst (λ n. TakesArguments c.args.name n) (sym c.in_ok-args.ensures.count) c.requires.count

pub emit_call-returns : goal.emit_call-returns
emit_call-returns t c =
    if_ok c.put_call.result
    (λ r. call_shown c.args.builder.now c.args.mask c.requires.begun.mask c.emit_list.new.builder c.put_call.new.builder c.args.name c.args.args.now c.in_ok-args.args r c.in_ok-args.ensures)
    c.put_call.ensures

pub emit_list-emit_expr-requires : goal.emit_list-emit_expr-requires
emit_list-emit_expr-requires t c =
    let es = c.args.list.now in
    let e = c.in-Some.of.now in
    let small = ex_smaller es c.loop-at.at e (sym c.in-Some.ensures) in (
      omega (arith, ap size c.get-in-loop-at.ensures, small, c.decreases),
      (
        stays_begun c.args.builder.now c.loop-at.builder c.args.mask c.requires.begun c.loop-at.invariant.extends,
        subst IsFormed (sym c.get-in-loop-at.ensures) (ex_formed es c.loop-at.at e (sym c.in-Some.ensures) c.requires.formed),
      ),
    )

pub emit_list-loop-at-preserved : goal.emit_list-loop-at-preserved
emit_list-loop-at-preserved t c =
    listed_more c.args.builder.now c.loop-at.builder c.emit_expr.new.builder c.args.list.now c.loop-at.at c.args.mask c.in_ok-emit_expr.field-0 c.in-Some.of.now (view c.get-in-loop-at.result.now) c.loop-at.registers c.push.new.self
    c.requires.begun.mask (sym c.in-Some.ensures) c.get-in-loop-at.ensures c.in_ok-push.ensures.ok c.loop-at.invariant c.in_ok-emit_expr.ensures

pub emit_test-returns : goal.emit_test-returns
emit_test-returns t c =
    let old = c.args.builder.now in
    let mid = c.emit_expr.new.builder in
    let m = c.args.mask in
    let a = c.in_ok-of.of in
    let first = subst (λ e. Emits old mid e m a) c.get.ensures c.in_ok-of.ensures in
    if_ok c.put_true.result (λ k. keeps_holding old mid c.put_true.new.builder c.args.test.now m a k c.requires.begun.mask first) c.put_true.ensures

pub emit_arm-returns : goal.emit_arm-returns
emit_arm-returns t c =
    let old = c.args.builder.now in
    let mid = c.emit_test.new.builder in
    let new = c.emit_expr.new.builder in
    let pick = c.in_ok-pick.pick in
    let r = c.in_ok-value.value in
    let second = subst (λ e. Emits mid new e pick r) c.get.ensures c.in_ok-value.ensures in
    arm_picks old mid new (arm_view c.args.arm.now) c.args.mask pick r c.in_ok-pick.ensures second

pub emit_case-emit_arm-requires : goal.emit_case-emit_arm-requires
emit_case-emit_arm-requires t c =
    let xs = c.args.list.now in
    let x = arm_view c.arm_at.result.now in
    let small = arm_smaller xs 0 x c.arm_at.ensures in
    let formed = arm_formed xs 0 x c.arm_at.ensures c.requires.arms in
    (omega (arith, small, c.decreases), (c.requires.begun, (formed.0, formed.1)))

pub emit_case-loop-at-init : goal.emit_case-loop-at-init
emit_case-loop-at-init t c =
    let x = arm_view c.arm_at.result.now in
    let arm = c.in_ok-first.first in
    first_arm c.args.builder.now c.args.mask c.requires.begun.mask c.emit_arm.new.builder c.put_minus.new.builder c.args.list.now x arm.pick arm.value c.in_ok-left.left c.arm_at.ensures c.in_ok-first.ensures c.in_ok-left.ensures

pub emit_case-emit_arm-requires-in-loop-at : goal.emit_case-emit_arm-requires-in-loop-at
emit_case-emit_arm-requires-in-loop-at t c =
    let xs = c.args.list.now in
    let x = arm_view c.arm_at-in-loop-at.result.now in
    let small = arm_smaller xs c.loop-at.at x c.arm_at-in-loop-at.ensures in
    let formed = arm_formed xs c.loop-at.at x c.arm_at-in-loop-at.ensures c.requires.arms in
    (omega (arith, small, c.decreases), (begun_under c.args.builder.now c.loop-at.builder c.args.mask c.loop-at.left c.requires.begun c.loop-at.invariant.extends c.loop-at.invariant.left_made, (formed.0, formed.1)))

pub emit_case-loop-at-preserved : goal.emit_case-loop-at-preserved
emit_case-loop-at-preserved t c =
    let x = arm_view c.arm_at-in-loop-at.result.now in
    let arm = c.in_ok-arm.arm in
    next_arm c.args.builder.now c.args.mask c.requires.begun.mask c.loop-at.builder c.emit_arm-in-loop-at.new.builder c.put_merge.new.builder c.put_minus-in-loop-at.new.builder c.args.list.now c.loop-at.at x c.loop-at.left c.loop-at.shown arm.pick arm.value
    c.in_ok-shown.shown c.in_ok-left-2.left c.arm_at-in-loop-at.ensures c.loop-at.invariant c.in_ok-arm.ensures c.in_ok-shown.ensures c.in_ok-left-2.ensures

pub emit_case-returns : goal.emit_case-returns
emit_case-returns t c =
    let p = c.loop-at.builder in
    let q = c.emit_expr.new.builder in
    let left = c.loop-at.left in
    let b = c.in_ok-other.other in
    let done : length c.args.list.now ≤ c.loop-at.at = omega (arith, c.loop-at-test.false, c.len-at-end.ensures) in
    let other = subst (λ e. Emits p q e left b) c.get.ensures c.in_ok-other.ensures in
    if_ok c.put_merge-2.result
    (λ r. last_arm c.args.builder.now c.args.mask c.requires.begun.mask p q c.put_merge-2.new.builder c.args.list.now c.loop-at.at c.args.other.now left c.loop-at.shown b r done c.loop-at.invariant other)
    c.put_merge-2.ensures
