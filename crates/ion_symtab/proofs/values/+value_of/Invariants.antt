use Rattle.std.proofs.Common.{◌≡◌, ℕ, ◌+◌, ◌*◌, ◌≤◌, List, ◌++◌, Some}
use Rattle.value_meaning.specs.Val.{size, vals_size, fields_size, vals, fields}
use Rattle.value_meaning.specs.Pairs.{IsAboveLast}
use Rattle.block_meaning.specs.Tables.{text_of}
use Rattle.ion_cells.specs.Standing.{HasLast}
use Rattle.ion_cells.specs.Shown.{shown}
use Rattle.ion_cells.specs.Iterating.{items_last, values_left, fields_last, fields_low, pairs_left}
use Rattle.ion_symtab.proofs.values.+value_of.Given as goal

abbrev pub decreases-items_of : goal.decreases-items_of
decreases-items_of l = 2 * vals_size (vals (values_left l.table.now l.cells))

abbrev pub decreases-pairs_of : goal.decreases-pairs_of
decreases-pairs_of l = 2 * fields_size (fields (pairs_left l.table.now l.fields))

abbrev pub decreases-value_of : goal.decreases-value_of
decreases-value_of l = 2 * size (shown l.table.now l.cell.now) + 1

abbrev pub invariant-items_of-loop-cell : goal.invariant-items_of-loop-cell
invariant-items_of-loop-cell l = record {
  can : (goal.iterator-items_of-loop-cell).can_next l.cell-iterator;
  finite : (goal.iterator-items_of-loop-cell).is_finite l.cell-iterator;
  last : HasLast l.table (items_last l.cell-iterator);
  all : l.items ++ values_left l.table l.cell-iterator ≡ values_left l.table l.fn.cells;
}

abbrev pub invariant-pairs_of-loop-label : goal.invariant-pairs_of-loop-label
invariant-pairs_of-loop-label l = record {
  can : (goal.iterator-pairs_of-loop-label).can_next l.label-iterator;
  finite : (goal.iterator-pairs_of-loop-label).is_finite l.label-iterator;
  last : HasLast l.table (fields_last l.label-iterator);
  above : (n : ℕ) (s : List ℕ) → fields_low l.label-iterator ≤ n → text_of l.table n ≡ Some s → IsAboveLast s l.pairs;
  all : l.pairs ++ pairs_left l.table l.label-iterator ≡ pairs_left l.table l.fn.fields;
}
