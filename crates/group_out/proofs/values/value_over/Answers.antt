use Rattle.std.proofs.Common.{◌≡◌, ap, subst}
use Rattle.std.specs.Prelude.{IfOk}
use Rattle.tree_meaning.specs.Tree.{Query}
use Rattle.snel_values.specs.View.{view}
use Rattle.hash_agg.specs.Finished.{row_view}
use Rattle.group_out.proofs.KnownValues.{as_row}
use Rattle.group_out.proofs.values.value_over.Goals as goal

pub returns : goal.returns
returns c =
    subst (λ w. IfOk c.eval_known.result (λ v. view v ≡ w))
    (as_row c.args.checked.now _ _ (row_view c.args.row.now) c.args.of.now (ap (λ (q : Query). q.keys) c.query.ensures.is) c.aggs.ensures)
    c.eval_known.ensures
