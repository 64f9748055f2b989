use Rattle.std.proofs.Common.{◌≡◌, ℕ, List, Some, subst, arith}
use Rattle.std.proofs.lemmas.Result.{IfOk-weaker}
use Rattle.std.specs.Prelude.{◌-◌}
use Rattle.order_limit.specs.Arranged.{Row, IsArranged}
use Rattle.order_limit.specs.Top.{StandsFor}
use Rattle.order_limit.proofs.top_rows.TopK.finish.Goals as goal

pub returns : goal.returns
returns c =
    let t = c.args.self in
    let whole : t.most - 0 ≡ t.most = omega arith in
    IfOk-weaker c.finish_from.result
    (λ out. (rows : List Row) → StandsFor t rows → IsArranged t.falling 0 (Some (t.most - 0)) rows out)
    (λ out. (rows : List Row) → StandsFor t rows → IsArranged t.falling 0 (Some t.most) rows out)
    (λ out h rows s. subst (λ (n : ℕ). IsArranged t.falling 0 (Some n) rows out) whole (h rows s)) c.finish_from.ensures
