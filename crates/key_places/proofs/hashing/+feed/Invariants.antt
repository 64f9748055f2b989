use Rattle.std.proofs.Common.{◌≡◌, ◌*◌, suc, drop}
use Rattle.snel_values.specs.View.{view, views}
use Rattle.value_meaning.specs.Val.{vals, fields, size, vals_size, fields_size}
use Rattle.key_places.specs.Hashes.{fed_vals, fed_fields}
use Rattle.key_places.proofs.hashing.+feed.Given as goal

abbrev pub decreases-feed : goal.decreases-feed
decreases-feed l = suc (2 * size (view l.value.now))

abbrev pub decreases-feed_items : goal.decreases-feed_items
decreases-feed_items l = 2 * vals_size (vals l.items.now)

abbrev pub decreases-feed_pairs : goal.decreases-feed_pairs
decreases-feed_pairs l = 2 * fields_size (fields l.pairs.now)

abbrev pub invariant-feed_items-loop-item : goal.invariant-feed_items-loop-item
invariant-feed_items-loop-item l =
    fed_vals (vals (views (drop l.item-index l.item-items))) l.state ≡ fed_vals (vals l.items) l.fn.state

abbrev pub invariant-feed_pairs-loop-at : goal.invariant-feed_pairs-loop-at
invariant-feed_pairs-loop-at l =
    fed_fields (fields (drop l.at l.pairs)) l.state ≡ fed_fields (fields l.pairs) l.fn.state
