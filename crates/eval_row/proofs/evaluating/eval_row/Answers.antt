use Rattle.std.proofs.Common.{◌≡◌, subst}
use Rattle.std.specs.Prelude.{IfOk}
use Rattle.snel_values.specs.View.{view}
use Rattle.eval_meaning.specs.Evaluation.{eval}
use Rattle.eval_row.specs.Sources.{pair_of}
use Rattle.eval_row.proofs.Filling.{unfilled}
use Rattle.eval_row.proofs.Beside.{nothing_known}
use Rattle.eval_row.proofs.evaluating.eval_row.Goals as goal

pub returns : goal.returns
returns c =
    subst (λ e. IfOk c.eval_known.result (λ v. view v ≡ eval e (pair_of c.args.row.now c.args.item.now)))
    (unfilled _ (nothing_known _ _ _ _ c.new-exprs.ensures c.new-exprs.ensures) c.args.of.now) c.eval_known.ensures
