use Rattle.std.proofs.Common.{◌+◌, ◌*◌, ◌≤◌, drop}
use Rattle.value_meaning.specs.Val.{size, vals, vals_size, fields, fields_size}
use Rattle.snel_values.specs.View.{view, views}
use Rattle.json_out.proofs.HavingTexts.{ItemsRest, PairsRest}
use Rattle.json_out.proofs.checks.+has_text.Given as goal

abbrev pub decreases-all_have_texts : goal.decreases-all_have_texts
decreases-all_have_texts l = 2 * vals_size (vals l.items.now)

abbrev pub decreases-has_text : goal.decreases-has_text
decreases-has_text l = 2 * size (view l.value.now) + 1

abbrev pub decreases-all_pairs_have_texts : goal.decreases-all_pairs_have_texts
decreases-all_pairs_have_texts l = 2 * fields_size (fields l.pairs.now)

abbrev pub invariant-all_have_texts-loop-item : goal.invariant-all_have_texts-loop-item
invariant-all_have_texts-loop-item l =
    ItemsRest (views l.item-items) (drop l.item-index (views l.item-items)) × (vals_size (vals (drop l.item-index (views l.item-items))) ≤ vals_size (vals (views l.item-items)))

abbrev pub invariant-all_pairs_have_texts-loop-at : goal.invariant-all_pairs_have_texts-loop-at
invariant-all_pairs_have_texts-loop-at l =
    PairsRest l.pairs (drop l.at l.pairs) × (fields_size (fields (drop l.at l.pairs)) ≤ fields_size (fields l.pairs))
