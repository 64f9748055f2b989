use Rattle.std.proofs.Common.{◌≡◌, ◌++◌, ◌*◌, suc, drop}
use Rattle.snel_values.specs.View.{view, views}
use Rattle.value_meaning.specs.Val.{vals, fields, size, vals_size, fields_size}
use Rattle.write_meaning.specs.Encoding.{encode_items, encode_pairs}
use Rattle.ion_write.proofs.values.+put.Given as goal

abbrev pub decreases-append_value : goal.decreases-append_value
decreases-append_value l = suc (2 * size (view l.value.now))

abbrev pub decreases-put_items : goal.decreases-put_items
decreases-put_items l = 2 * vals_size (vals l.items.now)

abbrev pub decreases-put_pairs : goal.decreases-put_pairs
decreases-put_pairs l = 2 * fields_size (fields l.pairs.now)

abbrev pub invariant-put_items-loop-item : goal.invariant-put_items-loop-item
invariant-put_items-loop-item l =
    l.out.items ++ encode_items l.table (vals (views (drop l.item-index l.item-items))) ≡ l.fn.out.items ++ encode_items l.table (vals l.items)

abbrev pub invariant-put_pairs-loop-at : goal.invariant-put_pairs-loop-at
invariant-put_pairs-loop-at l =
    l.out.items ++ encode_pairs l.table (fields (drop l.at l.pairs)) ≡ l.fn.out.items ++ encode_pairs l.table (fields l.pairs)
