use Rattle.std.proofs.Common.{◌≡◌, ◌∙◌, ap, ◌+◌, ◌<◌, ◌*◌, length, suc, arith}
use Rattle.value_meaning.specs.Val.{vals, fields, size, vals_size, fields_size}
use Rattle.snel_values.specs.View.{view}
use Rattle.key_places.specs.Hashes.{with_word, with_text}
use Rattle.key_places.proofs.Feeding.{item_smaller, value_smaller, pair_fed}
use Rattle.key_places.proofs.hashing.+feed.Goals as goal

pub feed_items-feed-requires : goal.feed_items-feed-requires
feed_items-feed-requires t c =
    let falls : suc (2 * size (view c.item-item.result)) < 2 * vals_size (vals c.args.items.now) = item_smaller _ _ _ _ c.as_slice-item-items.ensures (omega arith) c.item-item.is in
    omega (arith, falls, c.decreases)

pub feed_pairs-feed-requires : goal.feed_pairs-feed-requires
feed_pairs-feed-requires t c =
    let falls : suc (2 * size (view c.pair_at.result.1.now)) < 2 * fields_size (fields c.args.pairs.now) = value_smaller _ _ _ _ c.pair_at.ensures in
    omega (arith, falls, c.decreases)

pub feed_pairs-loop-at-preserved : goal.feed_pairs-loop-at-preserved
feed_pairs-loop-at-preserved t c = pair_fed c.args.pairs.now c.loop-at.at c.pair_at.result.0.now (view c.pair_at.result.1.now) _ _ _ _ c.pair_at.ensures (c.feed_text.ensures ∙ ap (λ bytes. with_text bytes (with_word 6 c.loop-at.state)) c.as_bytes.ensures.value) c.feed.ensures c.loop-at.invariant
