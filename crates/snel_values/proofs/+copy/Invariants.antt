use Rattle.std.proofs.Common.{◌≡◌, map, take}
use Rattle.snel_values.specs.View.{views, pair_view}
use Rattle.snel_values.proofs.+copy.Given as goal

abbrev pub invariant-items::Items::copy-loop-item : goal.invariant-items::Items::copy-loop-item
invariant-items::Items::copy-loop-item l = views l.all.items ≡ take l.item-index (views l.item-items)

abbrev pub invariant-pairs::Pairs::copy-loop-pair : goal.invariant-pairs::Pairs::copy-loop-pair
invariant-pairs::Pairs::copy-loop-pair l = map pair_view l.all.items ≡ take l.pair-index (map pair_view l.pair-items)
