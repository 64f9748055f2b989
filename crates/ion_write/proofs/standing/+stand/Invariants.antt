use Rattle.std.proofs.Common.{◌↔◌, ◌*◌, suc, drop}
use Rattle.snel_values.specs.View.{view, views}
use Rattle.value_meaning.specs.Val.{vals, fields, size, vals_size, fields_size}
use Rattle.write_meaning.specs.Standing.{AreWritable, PairsAreWritable}
use Rattle.ion_write.proofs.standing.+stand.Given as goal

abbrev pub decreases-may_stand : goal.decreases-may_stand
decreases-may_stand l = suc (2 * size (view l.value.now))

abbrev pub decreases-items_may_stand : goal.decreases-items_may_stand
decreases-items_may_stand l = 2 * vals_size (vals l.items.now)

abbrev pub decreases-pairs_may_stand : goal.decreases-pairs_may_stand
decreases-pairs_may_stand l = 2 * fields_size (fields l.pairs.now)

abbrev pub invariant-items_may_stand-loop-item : goal.invariant-items_may_stand-loop-item
invariant-items_may_stand-loop-item l =
    AreWritable l.depth (vals (views (drop l.item-index l.item-items))) ↔ AreWritable l.depth (vals l.items)

abbrev pub invariant-pairs_may_stand-loop-at : goal.invariant-pairs_may_stand-loop-at
invariant-pairs_may_stand-loop-at l =
    PairsAreWritable l.depth (fields (drop l.at l.pairs)) ↔ PairsAreWritable l.depth (fields l.pairs)
