use Rattle.std.proofs.Common.{◌≡◌, ◌≤◌}
use Rattle.std.specs.Prelude.{slice_get}
use Rattle.value_meaning.specs.Val.{vals}
use Rattle.block_meaning.specs.Tables.{Table}
use Rattle.ion_cells.specs.Standing.{HasLast}
use Rattle.ion_cells.specs.Iterating.{items_last, values_left}
use Rattle.lane_field.specs.Longest.{vals_longest}
use Rattle.lane_field.proofs.walks.nth_item.Given as goal

abbrev pub invariant-loop-item : goal.invariant-loop-item
invariant-loop-item l = record {
  can : (goal.iterator-loop-item).can_next l.item-iterator;
  finite : (goal.iterator-loop-item).is_finite l.item-iterator;
  last : items_last l.item-iterator ≡ items_last l.fn.items;
  within : (table : Table) → HasLast table (items_last l.fn.items) → vals_longest (vals (values_left table l.item-iterator)) ≤ vals_longest (vals (values_left table l.fn.items));
  value : (table : Table) → HasLast table (items_last l.fn.items) → slice_get (values_left table l.item-iterator) l.left ≡ slice_get (values_left table l.fn.items) l.at;
}
