use Rattle.std.proofs.Common.{◌≡◌, ◌++◌, ◌∙◌, ◌≤◌, List, Bool, map, length, sym, subst, ap, arith}
use Rattle.std.proofs.lemmas.List.{length-map}
use Rattle.std.proofs.lemmas.List.Sorted.{All-permutation}
use Rattle.std.proofs.lemmas.Result.{on_ok_weaker}
use Rattle.snel_values.specs.Made.{row_view}
use Rattle.order_limit.specs.Arranged.{Row, AreKeyed}
use Rattle.order_limit.specs.Heaps.{top_of}
use Rattle.order_limit.specs.Top.{Top, StandsFor}
use Rattle.order_limit.proofs.Joining.{stands_joined, All-front}
use Rattle.order_limit.proofs.top_rows.TopK.join.Goals as goal

pub returns-clause-stands : goal.returns-clause-stands
returns-clause-stands c =
    let f = c.self.inside.falling.items in
    let most = c.self.inside.most in
    let old = c.self.inside.rows.items in
    let new = c.add_rows.new.rows.items in
    let more = c.other.inside.rows.items in
    let same_flags : c.other.inside.falling.items ≡ f = ap (λ (t : Top). t.falling) c.other.view_is ∙ c.requires.falling ∙ ap (λ (t : Top). t.falling) (sym c.self.view_is) in
    let same_most : c.other.inside.most ≡ most = ap (λ (t : Top). t.most) c.other.view_is ∙ c.requires.most ∙ ap (λ (t : Top). t.most) (sym c.self.view_is) in
    let other_is : c.args.other ≡ top_of f most more = sym c.other.view_is ∙ (λ i. top_of (same_flags i) (same_most i) more) in
    let few : length (map row_view new) ≤ most = omega (arith, c.add_rows.ensures.kept.few, length-map new row_view) in
    on_ok_weaker c.add_rows.result
    (λ stands rows others h k.
    let before = subst (λ (t : Top). StandsFor t rows) (sym c.self.view_is) h in
    let put = subst (λ (t : Top). StandsFor t others) other_is k in
    let keyed = All-front (λ (r : Row). length r.0 ≡ length f) (map row_view more) put.dropped (All-permutation (λ (r : Row). length r.0 ≡ length f) others (map row_view more ++ put.dropped) put.permutes put.keyed) in
    let grown = subst (λ (g : List Bool). (all : List Row) → StandsFor (top_of g most old) all → AreKeyed g (map row_view more) → StandsFor (top_of g most new) (all ++ map row_view more)) c.as_slice.ensures.value stands in
    stands_joined f most (map row_view new) (map row_view more) rows others few put (grown rows before keyed) before.keyed)
    c.add_rows.ensures.stands
