use Rattle.std.proofs.Common.{◌++◌, ◌∷◌, [], List, ℕ, Option, ap, ◌∙◌}
use Rattle.tree_meaning.specs.declared.AggName.{AggName}
use Rattle.lane_ssa.specs.EndParts.{agg_end_view}
use Rattle.batch_groups.proofs.Taking.{taken}
use Rattle.batch_groups.proofs.sink.names_of.Goals as goal

pub loop-at-preserved : goal.loop-at-preserved
loop-at-preserved c =
    c.in_ok-push.ensures.items
    ∙ ap (λ l. l ++ c.in-Some.agg.name ∷ []) c.loop-at.invariant
    ∙ taken (λ (a : AggName × Option ℕ). a.0) c.args.aggs.now c.loop-at.at (agg_end_view c.in-Some.agg) c.in-Some.ensures
