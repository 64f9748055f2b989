use Rattle.std.proofs.Common.{◌≡◌, ◌-◌, false, length}
use Rattle.scan_board.specs.Seats.{BelongsTo, view_of, blocks_of}
use Rattle.board_tests.proofs.worker_tests.draw_all.Given as goal

abbrev pub invariant-loop-block : goal.invariant-loop-block
invariant-loop-block l = record {
  board : BelongsTo l.board l.seat;
  going : (view_of l.seat).ended ≡ false;
}

abbrev pub decreases-loop-block : goal.decreases-loop-block
decreases-loop-block l = blocks_of l.board - length (view_of l.seat).claims
