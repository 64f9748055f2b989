use Rattle.std.proofs.Common.{ℕ, List}
use Rattle.range_meaning.specs.Excluded.{HoldsWithin}
use Rattle.ion_cells.specs.Finding.{IsLabelOf}
use Rattle.time_index.proofs.Rows.{AllBefore}
use Rattle.time_index.proofs.soundness.are_within.Given as goal

abbrev pub invariant-loop-at : goal.invariant-loop-at
invariant-loop-at l = (name : List ℕ) → IsLabelOf l.block.0 name l.label → AllBefore (HoldsWithin name l.entry) l.block.1 l.at
