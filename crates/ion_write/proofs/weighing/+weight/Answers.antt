use Rattle.std.proofs.Common.{◌≡◌, ◌+◌, ◌<◌, ◌*◌, length, suc, arith, ap}
use Rattle.value_meaning.specs.Val.{vals, fields, size, vals_size, fields_size}
use Rattle.snel_values.specs.View.{view}
use Rattle.write_meaning.specs.Weights.{weight, pair_weights}
use Rattle.ion_write.specs.Counts.{raised}
use Rattle.ion_write.proofs.Smaller.{value_smaller, pair_smaller}
use Rattle.ion_write.proofs.Weighed.{pair_weighed}
use Rattle.ion_write.proofs.weighing.+weight.Goals as goal

pub weigh_items-weigh-requires : goal.weigh_items-weigh-requires
weigh_items-weigh-requires t c =
    let falls : suc (2 * size (view c.item-item.result)) < 2 * vals_size (vals c.args.items.now) = value_smaller _ _ _ _ c.as_slice-item-items.ensures (omega arith) c.item-item.is in
    (omega (arith, falls, c.decreases), tt)

pub weigh_pairs-weigh-requires : goal.weigh_pairs-weigh-requires
weigh_pairs-weigh-requires t c =
    let falls : suc (2 * size (view c.pair_at.result.1.now)) < 2 * fields_size (fields c.args.pairs.now) = pair_smaller _ _ _ _ c.pair_at.ensures in
    (omega (arith, falls, c.decreases), tt)

pub weigh_pairs-loop-at-preserved : goal.weigh_pairs-loop-at-preserved
weigh_pairs-loop-at-preserved t c =
    let is : c.saturating_add-total.result ≡ raised (raised c.loop-at.total (9 + length c.pair_at.result.0.now)) (weight (view c.pair_at.result.1.now)) =
    omega (arith, c.saturating_add-total.ensures, c.weigh.ensures, c.saturating_add.ensures, c.saturating_add-named.ensures) in
    record {
      fits = omega arith;
      weighed = pair_weighed c.args.pairs.now c.loop-at.at c.loop-at.total _ _ c.pair_at.result.0.now (view c.pair_at.result.1.now) c.pair_at.ensures is c.loop-at.invariant.weighed;
    }
