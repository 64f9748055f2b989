use Rattle.std.proofs.Common.{◌≡◌, length, take}
use Rattle.block_file.proofs.block.lanes_of.Given as goal

abbrev pub invariant-loop-i : goal.invariant-loop-i
invariant-loop-i l = record {
  long : length l.lanes ≡ 16;
  cells : take l.i l.lanes ≡ take l.i l.cells;
}
