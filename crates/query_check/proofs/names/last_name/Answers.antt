use Rattle.std.proofs.Common.{◌≡◌, ◌∙◌, ◌-◌, suc, sym, arith, length}
use Rattle.query_check.proofs.Numbered.{last_step}
use Rattle.query_check.proofs.names.last_name.Goals as goal

pub returns-else-count-eq0 : goal.returns-else-count-eq0
returns-else-count-eq0 c =
    let last : suc (c.len-count.result - 1) ≡ length c.args.steps.now = omega (arith, c.len-count.ensures, c.if-count-eq0.false) in
    c.step_name.ensures ∙ sym (last_step c.args.steps.now (c.len-count.result - 1) c.step_at.result.now last c.step_at.ensures)
