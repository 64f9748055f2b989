use Rattle.std.proofs.Common.{◌≡◌, ◌+◌, ◌*◌, ◌<◌, ◌^◌, suc, drop}
use Rattle.snel_values.specs.View.{view, views}
use Rattle.value_meaning.specs.Val.{vals, fields, size, vals_size, fields_size}
use Rattle.write_meaning.specs.Weights.{weights, pair_weights}
use Rattle.ion_write.specs.Counts.{raised}
use Rattle.ion_write.proofs.weighing.+weight.Given as goal

abbrev pub decreases-weigh_pairs : goal.decreases-weigh_pairs
decreases-weigh_pairs l = 2 * fields_size (fields l.pairs.now)

abbrev pub decreases-weigh : goal.decreases-weigh
decreases-weigh l = suc (2 * size (view l.value.now))

abbrev pub decreases-weigh_items : goal.decreases-weigh_items
decreases-weigh_items l = 2 * vals_size (vals l.items.now)

abbrev pub invariant-weigh_pairs-loop-at : goal.invariant-weigh_pairs-loop-at
invariant-weigh_pairs-loop-at l = record {
  fits : l.total < 2 ^ 64;
  weighed : raised l.total (pair_weights (fields (drop l.at l.pairs))) ≡ raised 0 (pair_weights (fields l.pairs));
}

abbrev pub invariant-weigh_items-loop-item : goal.invariant-weigh_items-loop-item
invariant-weigh_items-loop-item l = record {
  fits : l.total < 2 ^ 64;
  weighed : raised l.total (weights (vals (views (drop l.item-index l.item-items)))) ≡ raised 0 (weights (vals l.items));
}
