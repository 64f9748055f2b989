use Rattle.std.proofs.Common.{sym, ◌∙◌, arith}
use Rattle.snel_values.specs.View.{view}
use Rattle.query_tree.specs.View.{arm_view}
use Rattle.eval_meaning.specs.Evaluation.{eval}
use Rattle.eval_row.specs.Sources.{pair_of}
use Rattle.eval_row.specs.Known.{known_in, filled_by}
use Rattle.eval_row.proofs.Filling.{filled_known, filled_unknown}
use Rattle.eval_row.proofs.Walking.{no_arm_holds, evals_end, ex_is_smaller, test_is_smaller, evals_go_on, arm_holds, arm_fails}
use Rattle.eval_row.proofs.evaluating.+eval.Goals as goal

pub eval_case-eval_known-requires : goal.eval_case-eval_known-requires
eval_case-eval_known-requires t c =
    let small = test_is_smaller c.args.arms.now c.loop-at.at (arm_view c.in-Some.arm.now) (sym c.in-Some.ensures) in
    (omega (arith, small, c.decreases), tt)

pub eval_case-eval_known-requires-then-is_true : goal.eval_case-eval_known-requires-then-is_true
eval_case-eval_known-requires-then-is_true t c =
    let small = test_is_smaller c.args.arms.now c.loop-at.at (arm_view c.in-Some.arm.now) (sym c.in-Some.ensures) in
    (omega (arith, small, c.decreases), tt)

pub eval_case-returns-then-is_true : goal.eval_case-returns-then-is_true
eval_case-returns-then-is_true t c =
    let pair = pair_of c.args.row.now c.args.item.now in
    rw (arm_holds (known_in c.args.known.now) c.args.arms.now c.loop-at.at (arm_view c.in-Some.arm.now) pair (eval (filled_by c.args.known.now c.args.other.now) pair) (view c.in_ok-test.test)
    (sym c.in-Some.ensures) c.in_ok-test.ensures (sym c.is_true.ensures ∙ c.if-is_true.true) c.loop-at.invariant)
    c.eval_known-then-is_true.ensures

pub eval_case-loop-at-preserved : goal.eval_case-loop-at-preserved
eval_case-loop-at-preserved t c =
    let pair = pair_of c.args.row.now c.args.item.now in
    arm_fails (known_in c.args.known.now) c.args.arms.now c.loop-at.at (arm_view c.in-Some.arm.now) pair (eval (filled_by c.args.known.now c.args.other.now) pair) (view c.in_ok-test.test)
    (sym c.in-Some.ensures) c.in_ok-test.ensures (sym c.is_true.ensures ∙ c.if-is_true.false) c.loop-at.invariant

pub eval_list-eval_known-requires : goal.eval_list-eval_known-requires
eval_list-eval_known-requires t c =
    let small = ex_is_smaller c.args.list.now c.loop-at.at c.in-Some.of.now (sym c.in-Some.ensures) in
    (omega (arith, small, c.decreases), tt)

pub eval_list-loop-at-preserved : goal.eval_list-loop-at-preserved
eval_list-loop-at-preserved t c =
    rw c.in_ok-push.ensures.ok (rw c.in_ok-eval_known.ensures
    (evals_go_on (known_in c.args.known.now) c.args.list.now c.loop-at.at c.in-Some.of.now (pair_of c.args.row.now c.args.item.now) c.loop-at.values (sym c.in-Some.ensures) c.loop-at.invariant))

pub eval_case-returns : goal.eval_case-returns
eval_case-returns t c =
    let pair = pair_of c.args.row.now c.args.item.now in
    rw (no_arm_holds (known_in c.args.known.now) c.args.arms.now c.loop-at.at pair (eval (filled_by c.args.known.now c.args.other.now) pair)
    (omega (arith, c.loop-at-test.false, c.len-at-end.ensures)) c.loop-at.invariant)
    c.eval_known-2.ensures

pub eval_known-returns-in-Some : goal.eval_known-returns-in-Some
eval_known-returns-in-Some t c =
    rw (filled_known (known_in c.args.known.now) c.args.of.now (view c.in-Some.value.now) (sym c.in-Some.ensures)) c.copy.ensures

pub eval_known-returns-in-None : goal.eval_known-returns-in-None
eval_known-returns-in-None t c =
    rw (filled_unknown (known_in c.args.known.now) c.args.of.now (sym c.in-None.ensures), ← c.get.ensures) c.eval_form.ensures

pub eval_list-returns : goal.eval_list-returns
eval_list-returns t c =
    evals_end (known_in c.args.known.now) c.args.list.now c.loop-at.at (pair_of c.args.row.now c.args.item.now) c.loop-at.values
    (omega (arith, c.loop-at-test.false, c.len-at-end.ensures)) c.loop-at.invariant
