use Rattle.std.proofs.Common.{◌≡◌, ◌<◌, ◌+◌, ◌-◌, ◌/◌, ◌%◌, ◌^◌, length, take}
use Rattle.lane_ssa.specs.Bound.{IsBound}
use Rattle.lane_ssa.specs.Counts.{counted}
use Rattle.block_lines.specs.RowLines.{kept_rows}
use Rattle.block_lines.proofs.block.take_block.Given as goal

-- the rows before this one were handed on, and counted
abbrev pub invariant-loop-first : goal.invariant-loop-first
invariant-loop-first g l = record {
  bound : IsBound l.block.0 l.frame.job.program l.frame.symbols;
  job : l.frame.job ≡ l.fn.frame.job;
  whole : l.first % 16 ≡ 0;
  near : l.first < length l.block.1 + 16;
  rows : g.S.RowSink.grew l.fn.sink l.sink l.fn.frame.job (kept_rows l.fn.frame.job (take l.first l.block.1));
  chunks : counted l.frame.chunks 0 ≡ counted l.fn.frame.chunks (l.first / 16);
  kept : counted l.frame.kept 0 ≡ counted l.fn.frame.kept (length (kept_rows l.fn.frame.job (take l.first l.block.1)));
  chunks_most : 0 < l.first → l.frame.chunks < 2 ^ 64;
  kept_most : 0 < l.first → l.frame.kept < 2 ^ 64;
}

abbrev pub decreases-loop-first : goal.decreases-loop-first
decreases-loop-first g l = length l.block.1 + 16 - l.first
