use Rattle.std.proofs.Common.{rules, sym, subst}
use Rattle.key_places.specs.Placed.{IsReached}
use Rattle.key_places.proofs.Putting.{others_stay}
use Rattle.key_places.proofs.rows.put.Goals as goal

pub returns-in-Some-clause-others : goal.returns-in-Some-clause-others
returns-in-Some-clause-others c h n r =
    others_stay c.loop-step.rows c.row_at-at.result c.in-Some.place c.tag_of.result c.args.number _ c.with_number.result (search rules) (search rules) c.in-Some.ensures.0 c.in-Some.ensures.1 c.with_number.ensures h n (subst (λ l. IsReached l h n) (sym c.loop-step.invariant.same) r)
