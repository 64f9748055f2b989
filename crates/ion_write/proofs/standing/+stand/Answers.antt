use Rattle.std.proofs.Common.{◌≡◌, ◌+◌, ◌<◌, ◌*◌, length, suc, arith}
use Rattle.value_meaning.specs.Val.{vals, fields, size, vals_size, fields_size}
use Rattle.snel_values.specs.View.{view}
use Rattle.ion_write.proofs.Smaller.{value_smaller, pair_smaller}
use Rattle.ion_write.proofs.PairsStand.{pair_refused, pair_passed}
use Rattle.ion_write.proofs.standing.+stand.Goals as goal

pub items_may_stand-may_stand-requires : goal.items_may_stand-may_stand-requires
items_may_stand-may_stand-requires t c =
    let falls : suc (2 * size (view c.item-item.result)) < 2 * vals_size (vals c.args.items.now) = value_smaller _ _ _ _ c.as_slice-item-items.ensures (omega arith) c.item-item.is in
    (omega (arith, falls, c.decreases), tt)

pub pairs_may_stand-may_stand-requires : goal.pairs_may_stand-may_stand-requires
pairs_may_stand-may_stand-requires t c =
    let falls : suc (2 * size (view c.pair_at.result.1.now)) < 2 * fields_size (fields c.args.pairs.now) = pair_smaller _ _ _ _ c.pair_at.ensures in
    (omega (arith, falls, c.decreases), tt)

pub pairs_may_stand-returns-then-not-may_stand : goal.pairs_may_stand-returns-then-not-may_stand
pairs_may_stand-returns-then-not-may_stand t c =
    pair_refused c.args.depth c.args.pairs.now c.loop-at.at c.pair_at.result.0.now (view c.pair_at.result.1.now) c.may_stand.result c.pair_at.ensures c.may_stand.ensures c.if-not-may_stand.true c.loop-at.invariant

pub pairs_may_stand-loop-at-preserved : goal.pairs_may_stand-loop-at-preserved
pairs_may_stand-loop-at-preserved t c =
    pair_passed c.args.depth c.args.pairs.now c.loop-at.at c.pair_at.result.0.now (view c.pair_at.result.1.now) c.may_stand.result c.pair_at.ensures c.may_stand.ensures c.if-not-may_stand.false c.loop-at.invariant
