-- Going through the cells of a list and the pairs of a struct.
use Rattle.std.proofs.Common.{◌≡◌, ℕ, ◌≤◌, Bool, false, List, ◌++◌}
use Rattle.value_meaning.specs.Val.{vals, fields, vals_size, fields_size}
use Rattle.block_meaning.specs.Tables.{Table}
use Rattle.answer_meaning.specs.Lines.{items_text, fields_text}
use Rattle.ion_cells.specs.declared.iterators.Cells.{Cells}
use Rattle.ion_cells.specs.declared.iterators.Fields as pairs_of
use Rattle.ion_cells.specs.Standing.{HasLast}
use Rattle.ion_cells.specs.Iterating.{items_last, values_left, fields_last, pairs_left}

-- What is written and the text of the items that are left are the text of all items.
pub record ItemsGo (table : Table) (old new : List ℕ) (later : Bool) (all left : Cells) : Type 0 where
  pub last : HasLast table (items_last left)
  pub spells : new ++ items_text later (vals (values_left table left)) ≡ old ++ items_text false (vals (values_left table all))
  pub smaller : vals_size (vals (values_left table left)) ≤ vals_size (vals (values_left table all))

-- What is written and the text of the pairs that are left are the text of all pairs.
pub record PairsGo (table : Table) (old new : List ℕ) (later : Bool) (all left : pairs_of.Fields) : Type 0 where
  pub last : HasLast table (fields_last left)
  pub spells : new ++ fields_text later (fields (pairs_left table left)) ≡ old ++ fields_text false (fields (pairs_left table all))
  pub smaller : fields_size (fields (pairs_left table left)) ≤ fields_size (fields (pairs_left table all))
