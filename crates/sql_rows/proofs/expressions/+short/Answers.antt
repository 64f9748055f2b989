use Rattle.std.proofs.Common.{arith, sym, ap, ◌∙◌}
use Rattle.query_meaning.specs.RowName.{short}
use Rattle.tree_meaning.specs.Tree.{exs, arms}
use Rattle.query_tree.specs.View.{arm_view}
use Rattle.sql_rows.proofs.Shortened.{one_more_image, finished, pair_is, short_pair, exs_short, arms_short, smaller, smaller_arm}
use Rattle.sql_rows.proofs.Prefixes.{smaller_below_signs, smaller_below_nots, signs_shortened, nots_shortened}
use Rattle.sql_rows.proofs.expressions.+short.Goals as goal

pub short_exprs-loop-at-preserved : goal.short_exprs-loop-at-preserved
short_exprs-loop-at-preserved t c = rw c.in_ok-push.ensures.ok (one_more_image (short c.args.row.now) c.args.list.now c.loop-at.all _ c.loop-at.at c.in-Some.one.now c.in_ok-short.short c.loop-at.invariant (sym c.in-Some.ensures) c.in_ok-short.ensures)

pub short_exprs-returns-clause-items : goal.short_exprs-returns-clause-items
short_exprs-returns-clause-items t c = finished (short c.args.row.now) c.args.list.now c.loop-at.all _ c.loop-at.at c.loop-at.invariant (omega arith)

pub short_exprs-returns-clause-tree : goal.short_exprs-returns-clause-tree
short_exprs-returns-clause-tree t c = ap exs (finished (short c.args.row.now) c.args.list.now c.loop-at.all _ c.loop-at.at c.loop-at.invariant (omega arith)) ∙ exs_short c.args.row.now c.args.list.now

pub short_arms-loop-at-preserved : goal.short_arms-loop-at-preserved
short_arms-loop-at-preserved t c = rw c.in_ok-push.ensures.ok (one_more_image (short_pair c.args.row.now) c.args.list.now c.loop-at.all _ c.loop-at.at (arm_view c.in-Some.arm.now) (c.in_ok-test.test, c.in_ok-value.value) c.loop-at.invariant (sym c.in-Some.ensures) (pair_is _ _ _ _ c.in_ok-test.ensures c.in_ok-value.ensures))

pub short_arms-returns : goal.short_arms-returns
short_arms-returns t c = ap arms (finished (short_pair c.args.row.now) c.args.list.now c.loop-at.all _ c.loop-at.at c.loop-at.invariant (omega arith)) ∙ arms_short c.args.row.now c.args.list.now

pub short_exprs-short-requires : goal.short_exprs-short-requires
short_exprs-short-requires t c = let s = smaller c.args.list.now c.loop-at.at c.in-Some.one.now (sym c.in-Some.ensures) in omega (arith, s)

pub short_arms-short-requires : goal.short_arms-short-requires
short_arms-short-requires t c = let s = smaller_arm c.args.list.now c.loop-at.at (arm_view c.in-Some.arm.now) (sym c.in-Some.ensures) in omega (arith, s.0)

pub short_arms-short-requires-in-loop-at : goal.short_arms-short-requires-in-loop-at
short_arms-short-requires-in-loop-at t c = let s = smaller_arm c.args.list.now c.loop-at.at (arm_view c.in-Some.arm.now) (sym c.in-Some.ensures) in omega (arith, s.1)

pub short_neg-short-requires : goal.short_neg-short-requires
short_neg-short-requires t c = let s = smaller_below_signs c.signs-count.result.0 c.args.of.now c.signs-count.result.1.now c.signs-count.ensures in omega (arith, s)

pub short_neg-returns : goal.short_neg-returns
short_neg-returns t c = c.in_ok-all.ensures ∙ signs_shortened c.args.row.now c.signs-count.result.0 c.args.of.now c.signs-count.result.1.now c.in_ok-short.short c.in_ok-inner.inner c.signs-count.ensures c.in_ok-inner.ensures c.in_ok-short.ensures

pub short_not-short-requires : goal.short_not-short-requires
short_not-short-requires t c = let s = smaller_below_nots c.denials-count.result.0 c.args.of.now c.denials-count.result.1.now c.denials-count.ensures in omega (arith, s)

pub short_not-returns : goal.short_not-returns
short_not-returns t c = c.in_ok-all.ensures ∙ nots_shortened c.args.row.now c.denials-count.result.0 c.args.of.now c.denials-count.result.1.now c.in_ok-short.short c.in_ok-inner.inner c.denials-count.ensures c.in_ok-inner.ensures c.in_ok-short.ensures
