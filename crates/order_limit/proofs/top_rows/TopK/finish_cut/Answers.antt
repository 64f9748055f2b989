use Rattle.std.proofs.Common.{◌≡◌, ◌∙◌, ◌<◌, ap, map, length, List, Bool, sym, subst, arith}
use Rattle.std.specs.Prelude.{IfOk}
use Rattle.std.specs.List.Sorted.{IsSortedBy}
use Rattle.std.proofs.lemmas.Result.{IfOk-weaker}
use Rattle.snel_values.specs.Made.{row_view}
use Rattle.answer_meaning.specs.Answers.{limited}
use Rattle.order_limit.specs.Arranged.{Row, IsArranged}
use Rattle.order_limit.specs.Heaps.{row_before}
use Rattle.order_limit.specs.Top.{Top, StandsFor, no_limit, IsEnough}
use Rattle.order_limit.proofs.Joining.{finished_cut}
use Rattle.order_limit.proofs.top_rows.TopK.finish_cut.Goals as goal

pub returns : goal.returns
returns c =
    let s = c.args.skip in
    let n = c.args.take in
    let inside = c.self.inside in
    let ordered = c.sort_rows.new.all.items in
    let sorted = subst (λ (g : List Bool). IsSortedBy (row_before g) ordered) c.as_slice.ensures.value c.in_ok-sort_rows.ensures.sorted in
    let long = inside.rows.ok.0 in
    let within = inside.rows.ok.1 in
    let small : length inside.rows.items < no_limit = omega (arith, long, within, inside.rows.small) in
    let enough = subst (λ (t : Top). IsEnough t.most s n) (sym c.self.view_is) c.requires.enough in
    subst (λ (t : Top). IfOk c.to_rows.result (λ out. (rows : List Row) → StandsFor t rows → IsArranged t.falling s n rows out)) c.self.view_is
    (IfOk-weaker c.to_rows.result
    (λ out. out ≡ map row_view c.limit_rows.new.kept.items)
    (λ out. (rows : List Row) → StandsFor (record { falling = inside.falling.items; most = inside.most; held = map row_view inside.rows.items }) rows → IsArranged inside.falling.items s n rows out)
    (λ out is. finished_cut inside.falling.items inside.most s n inside.rows.items ordered out c.self.invariant.few small enough c.in_ok-sort_rows.ensures.permutation sorted (is ∙ ap (map row_view) (c.limit_rows.ensures ∙ ap (limited n) c.in_ok-kept.ensures)))
    c.to_rows.ensures)
