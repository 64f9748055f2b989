use Rattle.std.proofs.Common.{◌≡◌, ◌+◌, ◌<◌, ◌*◌, length, suc, arith, ap}
use Rattle.value_meaning.specs.Val.{vals, fields, size, vals_size, fields_size}
use Rattle.snel_values.specs.View.{view}
use Rattle.ion_write.proofs.Smaller.{value_smaller, pair_smaller, item_written, items_written, pair_written, pairs_written}
use Rattle.ion_write.proofs.values.+put.Goals as goal

pub put_items-append_value-requires : goal.put_items-append_value-requires
put_items-append_value-requires t c =
    let falls : suc (2 * size (view c.item-item.result)) < 2 * vals_size (vals c.args.items.now) = value_smaller _ _ _ _ c.as_slice-item-items.ensures (omega arith) c.item-item.is in
    (omega (arith, falls, c.decreases), tt)

pub put_pairs-append_value-requires : goal.put_pairs-append_value-requires
put_pairs-append_value-requires t c =
    let falls : suc (2 * size (view c.pair_at.result.1.now)) < 2 * fields_size (fields c.args.pairs.now) = pair_smaller _ _ _ _ c.pair_at.ensures in
    (omega (arith, falls, c.decreases), tt)

pub put_pairs-loop-at-preserved : goal.put_pairs-loop-at-preserved
put_pairs-loop-at-preserved t c =
    pair_written c.args.table.now c.args.pairs.now c.loop-at.at c.pair_at.result.0.now (view c.pair_at.result.1.now) c.loop-at.out.items c.put_label.new.out.items c.append_value.new.out.items _ c.pair_at.ensures
    c.in_ok-put_label.ensures c.in_ok-append_value.ensures c.loop-at.invariant
