use Rattle.std.proofs.Common.{◌≡◌, ℕ}
use Rattle.std.specs.Prelude.{◌&&◌, nat_lt}
use Rattle.block_meaning.specs.Tables.{Table}
use Rattle.ion_cells.specs.declared.kind.Kind.{Kind}
use Rattle.lane_base.specs.Bits.{has}
use Rattle.lane_field.specs.CellsOf.{cell_within, AreCellsOf}
use Rattle.lane_field.specs.Kinds.{mask_of, is_of_kind}
use Rattle.lane_field.proofs.kinds.kinds16.Given as goal

abbrev pub invariant-loop-i : goal.invariant-loop-i
invariant-loop-i l =
    (table : Table) → AreCellsOf table l.m.0 l.c → (kind : Kind) (k : ℕ) → has (mask_of kind l.masks) k ≡ (nat_lt k l.i && is_of_kind table kind (cell_within l.m.0 l.c k))
