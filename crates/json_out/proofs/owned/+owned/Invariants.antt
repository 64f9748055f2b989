use Rattle.std.proofs.Common.{◌+◌, ◌*◌, drop}
use Rattle.value_meaning.specs.Val.{size, vals, vals_size, fields, fields_size}
use Rattle.snel_values.specs.View.{view, views}
use Rattle.json_out.proofs.Members.{ItemsStand, PairsStand}
use Rattle.json_out.proofs.owned.+owned.Given as goal

abbrev pub decreases-put_items : goal.decreases-put_items
decreases-put_items l = 2 * vals_size (vals l.items.now)

abbrev pub decreases-put_owned : goal.decreases-put_owned
decreases-put_owned l = 2 * size (view l.value.now) + 1

abbrev pub decreases-put_pairs : goal.decreases-put_pairs
decreases-put_pairs l = 2 * fields_size (fields l.pairs.now)

abbrev pub invariant-put_items-loop-item : goal.invariant-put_items-loop-item
invariant-put_items-loop-item l = ItemsStand l.initial.into l.into l.later (views l.item-items) (drop l.item-index (views l.item-items))

abbrev pub invariant-put_pairs-loop-at : goal.invariant-put_pairs-loop-at
invariant-put_pairs-loop-at l = PairsStand l.initial.into l.into l.later l.pairs (drop l.at l.pairs)
