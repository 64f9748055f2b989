-- Each item and each value of a pair is smaller than all of them.
use Rattle.std.proofs.Common.{◌<◌, ◌∙◌, List, [], ◌∷◌, ◌++◌, length, ap, arith}
use Rattle.json.specs.Print.{quoted}
use Rattle.answer_meaning.specs.Lines.{value_text}
use Rattle.value_meaning.specs.Val.{Val, vals, vals_size}
use Rattle.snel_values.specs.View.{view}
use Rattle.snel_values.proofs.Comparing.{drop_map}
use Rattle.json_out.proofs.Members.{item_within, items_go_on, pair_within, pairs_go_on}
use Rattle.json_out.proofs.owned.+owned.Goals as goal

pub put_items-put_owned-requires : goal.put_items-put_owned-requires
put_items-put_owned-requires t c =
    let xs = c.as_slice-item-items.result.now in
    let h : c.loop-item.item-index < length xs = omega arith in
    let w = item_within _ _ _ _ _ _ _ c.loop-item.invariant (drop_map view xs c.loop-item.item-index c.item-item.result h c.item-item.is) in
    let below = w.below in
    let same = ap (λ (l : List Val). vals_size (vals l)) c.as_slice-item-items.ensures in
    (omega (arith, same, below, c.decreases), (w.times, w.no_missing))

pub put_items-loop-item-preserved : goal.put_items-loop-item-preserved
put_items-loop-item-preserved t c =
    let xs = c.as_slice-item-items.result.now in
    let h : c.loop-item.item-index < length xs = omega arith in
    items_go_on _ _ _ _ _ _ _ c.loop-item.invariant (drop_map view xs c.loop-item.item-index c.item-item.result h c.item-item.is) _ (rw c.in_ok-put_comma_if.ensures at c.in_ok-put_owned.ensures)

pub put_pairs-put_owned-requires : goal.put_pairs-put_owned-requires
put_pairs-put_owned-requires t c =
    let w = pair_within _ _ _ _ _ _ _ _ c.loop-at.invariant c.pair_at.ensures in
    let below = w.below in
    (omega (arith, below, c.decreases), (w.times, w.no_missing))

pub put_pairs-loop-at-preserved : goal.put_pairs-loop-at-preserved
put_pairs-loop-at-preserved t c =
    let named = c.in_ok-put_quoted.ensures ∙ ap (λ l. l ++ quoted c.pair_at.result.0.now) c.in_ok-put_comma_if.ensures in
    let behind_colon = c.in_ok-push_all-2.ensures.ok ∙ ap (λ l. l ++ 58 ∷ []) named in
    pairs_go_on _ _ _ _ _ _ _ _ c.loop-at.invariant c.pair_at.ensures _
    (c.in_ok-put_owned.ensures ∙ ap (λ l. l ++ value_text (view c.pair_at.result.1.now)) behind_colon)
