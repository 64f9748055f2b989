use Rattle.std.proofs.Common.{◌++◌, drop}
use Rattle.answer_meaning.specs.Lines.{line_text}
use Rattle.lane_ssa.specs.Frames.{state_at}
use Rattle.block_lines.specs.RowLines.{shown_pairs}
use Rattle.block_lines.proofs.PairByPair.{IsBegun, opened}
use Rattle.block_lines.proofs.one_line.append_outputs.Given as goal

-- the pairs of the outputs before this one stand in the line, and the brace before the first of them
abbrev pub invariant-loop-at : goal.invariant-loop-at
invariant-loop-at l =
    IsBegun (l.fn.into ++ line_text (shown_pairs (state_at l.fn.table l.fn.frame l.fn.lane) l.fn.frame.job.ends.outs)) (opened l.later l.into) l.later (state_at l.fn.table l.fn.frame l.fn.lane) (drop l.at l.fn.frame.job.ends.outs)
