use Rattle.std.proofs.Common.{◌≡◌, ◌∙◌, ap, map, List, Bool, Some, subst}
use Rattle.std.specs.List.Sorted.{IsSortedBy}
use Rattle.std.proofs.lemmas.Result.{IfOk-weaker}
use Rattle.std.specs.Prelude.{◌-◌, IfOk}
use Rattle.snel_values.specs.Made.{row_view}
use Rattle.order_limit.specs.Arranged.{Row, IsArranged}
use Rattle.order_limit.specs.Heaps.{row_before}
use Rattle.order_limit.specs.Top.{Top, StandsFor}
use Rattle.order_limit.proofs.Standing.{finished}
use Rattle.order_limit.proofs.top_rows.TopK.finish_from.Goals as goal

pub returns : goal.returns
returns c =
    let s = c.args.skip in
    let inside = c.self.inside in
    let ordered = c.sort_rows.new.all.items in
    let sorted = subst (λ (g : List Bool). IsSortedBy (row_before g) ordered) c.as_slice.ensures.value c.in_ok-sort_rows.ensures.sorted in
    subst (λ (t : Top). IfOk c.to_rows.result (λ out. (rows : List Row) → StandsFor t rows → IsArranged t.falling s (Some (t.most - s)) rows out)) c.self.view_is
    (IfOk-weaker c.to_rows.result
    (λ out. out ≡ map row_view c.in_ok-kept.kept.items)
    (λ out. (rows : List Row) → StandsFor (record { falling = inside.falling.items; most = inside.most; held = map row_view inside.rows.items }) rows → IsArranged inside.falling.items s (Some (inside.most - s)) rows out)
    (λ out is. finished inside.falling.items inside.most s inside.rows.items ordered out c.self.invariant.few c.in_ok-sort_rows.ensures.permutation sorted (is ∙ ap (map row_view) c.in_ok-kept.ensures))
    c.to_rows.ensures)
