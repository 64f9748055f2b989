use Rattle.std.proofs.Common.{◌≡◌, length, []}
use Rattle.std.specs.Prelude.{unwrap_or}
use Rattle.ion_cells.specs.Values.{text_in}
use Rattle.lane_base.specs.Registers.{no_span}
use Rattle.lane_field.specs.CellsOf.{cell_within, denoted}
use Rattle.lane_base.proofs.Filled.{Filled}
use Rattle.lane_field.proofs.load.texts16.Given as goal

abbrev pub invariant-loop-i : goal.invariant-loop-i
invariant-loop-i l = record {
  long : length l.lanes ≡ 16;
  filled : Filled (λ k s. s.now ≡ unwrap_or (text_in (denoted l.table (cell_within l.m.0 l.c k))) []) no_span l.lanes l.i;
}
