use Rattle.std.proofs.Common.{◌+◌, ◌*◌}
use Rattle.value_meaning.specs.Val.{size, vals, vals_size, fields, fields_size}
use Rattle.ion_cells.specs.Shown.{shown}
use Rattle.ion_cells.specs.Iterating.{values_left, pairs_left}
use Rattle.json_out.proofs.Going.{ItemsGo, PairsGo}
use Rattle.json_out.proofs.values.+values.Given as goal

abbrev pub decreases-put_list : goal.decreases-put_list
decreases-put_list l = 2 * vals_size (vals (values_left l.table.now l.cells))

abbrev pub decreases-put_struct : goal.decreases-put_struct
decreases-put_struct l = 2 * fields_size (fields (pairs_left l.table.now l.pairs))

abbrev pub decreases-put_value : goal.decreases-put_value
decreases-put_value l = 2 * size (shown l.table.now l.cell.now) + 1

abbrev pub invariant-put_list-items : goal.invariant-put_list-items
invariant-put_list-items l =
    (goal.iterator-put_list-items).can_next l.cells ×
    (goal.iterator-put_list-items).is_finite l.cells ×
    ItemsGo l.table l.initial.into l.into l.later l.initial.cells l.cells

abbrev pub invariant-put_struct-pairs : goal.invariant-put_struct-pairs
invariant-put_struct-pairs l =
    (goal.iterator-put_struct-pairs).can_next l.pairs ×
    (goal.iterator-put_struct-pairs).is_finite l.pairs ×
    PairsGo l.table l.initial.into l.into l.later l.initial.pairs l.pairs
