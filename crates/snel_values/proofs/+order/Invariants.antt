use Rattle.std.proofs.Common.{◌≡◌, map, drop}
use Rattle.snel_values.specs.View.{views, pair_view}
use Rattle.value_meaning.specs.Val.{vals, fields}
use Rattle.value_meaning.specs.Order.{vals_cmp, fields_cmp}
use Rattle.snel_values.proofs.+order.Given as goal

abbrev pub decreases-items::Items::order : goal.decreases-items::Items::order
decreases-items::Items::order l = goal.size-items::Items::order l

abbrev pub decreases-ordering::order : goal.decreases-ordering::order
decreases-ordering::order l = goal.size-ordering::order l

abbrev pub decreases-pairs::Pairs::order : goal.decreases-pairs::Pairs::order
decreases-pairs::Pairs::order l = goal.size-pairs::Pairs::order l

abbrev pub invariant-items::Items::order-loop-i : goal.invariant-items::Items::order-loop-i
invariant-items::Items::order-loop-i l =
    let xs = views l.self-inside.all.items in
    let ys = views l.other-inside.all.items in
    vals_cmp (vals xs) (vals ys) ≡ vals_cmp (vals (drop l.i xs)) (vals (drop l.i ys))

abbrev pub invariant-pairs::Pairs::order-loop-i : goal.invariant-pairs::Pairs::order-loop-i
invariant-pairs::Pairs::order-loop-i l =
    let xs = map pair_view l.self-inside.all.items in
    let ys = map pair_view l.other-inside.all.items in
    fields_cmp (fields xs) (fields ys) ≡ fields_cmp (fields (drop l.i xs)) (fields (drop l.i ys))
