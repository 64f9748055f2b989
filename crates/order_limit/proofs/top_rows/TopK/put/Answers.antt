use Rattle.std.proofs.Common.{List, Bool, map, length, sym, subst, ap, ◌∙◌}
use Rattle.std.proofs.lemmas.Result.{on_ok_weaker}
use Rattle.snel_values.specs.Made.{row_view}
use Rattle.order_limit.specs.Heaps.{row_before, Adds}
use Rattle.order_limit.specs.Top.{Top, StandsFor}
use Rattle.order_limit.proofs.Standing.{stands_added, seen_adds}
use Rattle.order_limit.proofs.top_rows.TopK.put.Goals as goal

pub returns-clause-stands : goal.returns-clause-stands
returns-clause-stands c =
    let f = c.self.inside.falling.items in
    let most = c.self.inside.most in
    let old = c.self.inside.rows.items in
    let new = c.add_row.new.rows.items in
    let x = c.args.row in
    let keyed = c.requires.keyed ∙ ap (λ (t : Top). length t.falling) (sym c.self.view_is) in
    on_ok_weaker c.add_row.result
    (λ adds rows h.
    let before = subst (λ (t : Top). StandsFor t rows) (sym c.self.view_is) h in
    stands_added f most (map row_view old) rows before (row_view x) keyed (map row_view new) (seen_adds f most old x new (subst (λ (g : List Bool). Adds (row_before g) most old x new) c.as_slice.ensures.value adds)))
    c.add_row.ensures.adds
