use Rattle.std.proofs.Common.{◌∙◌, sym}
use Rattle.query_check.proofs.Ordered.{only_step}
use Rattle.query_check.proofs.order.only_name.Goals as goal

pub returns-then-len-eq1 : goal.returns-then-len-eq1
returns-then-len-eq1 c = c.step_name.ensures ∙ only_step c.args.row c.args.steps.now c.step_at.result.now c.if-row-eq0.true (sym c.len.ensures ∙ c.if-len-eq1.true) c.step_at.ensures
