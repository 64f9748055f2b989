use Rattle.std.proofs.Common.{◌≡◌, ◌+◌, ◌*◌, ◌++◌, drop}
use Rattle.tree_meaning.specs.Tree.{size, exs, exs_size, arms, arms_size}
use Rattle.query_tree.specs.View.{view}
use Rattle.eval_meaning.specs.Evaluation.{eval, evals, choices}
use Rattle.eval_row.specs.Sources.{pair_of}
use Rattle.eval_row.specs.Known.{filled_by, exs_filled_by, arms_filled_by}
use Rattle.eval_row.proofs.evaluating.+eval.Given as goal

abbrev pub decreases-eval_known : goal.decreases-eval_known
decreases-eval_known l = 3 * size l.of.now + 1

abbrev pub decreases-eval_form : goal.decreases-eval_form
decreases-eval_form l = 3 * size (view l.of.now)

abbrev pub decreases-eval_neg : goal.decreases-eval_neg
decreases-eval_neg l = 3 * size l.of.now + 2

abbrev pub decreases-eval_not : goal.decreases-eval_not
decreases-eval_not l = 3 * size l.of.now + 2

abbrev pub decreases-eval_is : goal.decreases-eval_is
decreases-eval_is l = 3 * size l.of.now + 2

abbrev pub decreases-eval_match : goal.decreases-eval_match
decreases-eval_match l = 3 * size l.of.now + 2

abbrev pub decreases-eval_cast : goal.decreases-eval_cast
decreases-eval_cast l = 3 * size l.of.now + 2

abbrev pub decreases-eval_trunc : goal.decreases-eval_trunc
decreases-eval_trunc l = 3 * size l.of.now + 2

abbrev pub decreases-eval_extract : goal.decreases-eval_extract
decreases-eval_extract l = 3 * size l.of.now + 2

abbrev pub decreases-eval_bin : goal.decreases-eval_bin
decreases-eval_bin l = 3 * (size l.left.now + size l.right.now) + 2

abbrev pub decreases-eval_in : goal.decreases-eval_in
decreases-eval_in l = 3 * (size l.of.now + exs_size (exs l.list.now)) + 2

abbrev pub decreases-eval_between : goal.decreases-eval_between
decreases-eval_between l = 3 * (size l.of.now + size l.low.now + size l.high.now) + 2

abbrev pub decreases-eval_case : goal.decreases-eval_case
decreases-eval_case l = 3 * (arms_size (arms l.arms.now) + size l.other.now) + 2

abbrev pub decreases-eval_call : goal.decreases-eval_call
decreases-eval_call l = 3 * exs_size (exs l.args.now) + 2

abbrev pub decreases-eval_shift : goal.decreases-eval_shift
decreases-eval_shift l = 3 * (size l.count.now + size l.of.now) + 2

abbrev pub decreases-eval_list : goal.decreases-eval_list
decreases-eval_list l = 3 * exs_size (exs l.list.now) + 1

abbrev pub invariant-eval_case-loop-at : goal.invariant-eval_case-loop-at
invariant-eval_case-loop-at l =
    let pair = pair_of l.row l.item in
    let other = eval (filled_by l.known l.other) pair in
    choices (arms_filled_by l.known (arms (drop l.at l.arms))) pair other ≡ choices (arms_filled_by l.known (arms l.arms)) pair other

abbrev pub invariant-eval_list-loop-at : goal.invariant-eval_list-loop-at
invariant-eval_list-loop-at l =
    let pair = pair_of l.row l.item in
    evals (exs_filled_by l.known (exs l.list)) pair ≡ l.values ++ evals (exs_filled_by l.known (exs (drop l.at l.list))) pair
