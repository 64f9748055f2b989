use Rattle.std.proofs.Common.{◌≡◌, map, take}
use Rattle.check_meaning.specs.Places.{order_ex}
use Rattle.hash_agg.specs.Finished.{row_view}
use Rattle.group_out.specs.Values.{value_of_row}
use Rattle.group_out.proofs.values.sort_keys.Given as goal

abbrev pub invariant-loop-at : goal.invariant-loop-at
invariant-loop-at l =
    let q = l.checked in
    l.keys ≡ take l.at (map (λ k. value_of_row q (row_view l.row) (order_ex q.outs k.0)) q.order)
