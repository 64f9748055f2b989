use Rattle.std.proofs.Common.{sym, ap, ◌∙◌, arith}
use Rattle.tree_meaning.specs.Tree.{neg}
use Rattle.query_tree.specs.View.{view}
use Rattle.sql_forms.proofs.Counts.{one_more, all_counted}
use Rattle.sql_forms.proofs.counting.signs.Goals as goal

pub loop-count-preserved : goal.loop-count-preserved
loop-count-preserved c = one_more neg c.loop-count.count c.args.of.now c.loop-count.below.now c.in-Neg.inner c.loop-count.invariant (sym c.get.ensures ∙ ap view c.in-Neg.is)

pub returns : goal.returns
returns c = all_counted neg c.loop-count.count c.args.most c.args.of.now c.loop-count.below.now c.loop-count.invariant (omega arith)
