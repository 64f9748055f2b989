use Rattle.std.proofs.Common.{map, ap, ◌∙◌, ◌∷◌, []}
use Rattle.std.proofs.lemmas.List.{map-append}
use Rattle.snel_values.specs.Made.{row_view}
use Rattle.order_limit.proofs.Rows.{moved}
use Rattle.order_limit.proofs.moving.to_vec.Goals as goal

pub loop-row-preserved : goal.loop-row-preserved
loop-row-preserved c =
    moved c.args.rows c.pop.new.self c.loop-row.rows (row_view c.in-Some.row) (map row_view c.loop-row.all.items) (map row_view c.push.new.self.items) c.loop-row.invariant c.in-Some.ensures (ap (map row_view) c.in_ok-push.ensures.items ∙ map-append row_view c.loop-row.all.items (c.in-Some.row ∷ []))
