use Rattle.std.proofs.Common.{take}
use Rattle.lane_ssa.specs.ChunksOf.{rows_from}
use Rattle.block_lines.specs.RowLines.{kept_rows}
use Rattle.block_lines.proofs.chunks.take_lanes.Given as goal

-- the rows in the lanes before this one were handed on
abbrev pub invariant-loop-lane : goal.invariant-loop-lane
invariant-loop-lane g l =
    g.S.RowSink.grew l.fn.sink l.sink l.fn.frame.job (kept_rows l.fn.frame.job (take l.lane (rows_from l.fn.first l.fn.block.1)))
