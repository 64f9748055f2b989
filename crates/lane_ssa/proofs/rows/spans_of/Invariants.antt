use Rattle.std.proofs.Common.{◌≡◌, ◌<◌, length, Some}
use Rattle.std.specs.Prelude.{slice_get}
use Rattle.lane_base.specs.Registers.{no_span}
use Rattle.lane_base.proofs.Filled.{Filled}
use Rattle.lane_ssa.proofs.rows.spans_of.Given as goal

abbrev pub invariant-loop-i : goal.invariant-loop-i
invariant-loop-i l = record {
  long : length l.lanes ≡ 16;
  filled : Filled (λ k s. k < length l.chunk → slice_get l.chunk k ≡ Some s.now) no_span l.lanes l.i;
}
