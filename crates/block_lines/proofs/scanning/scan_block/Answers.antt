use Rattle.std.proofs.Common.{ap, ◌∙◌}
use Rattle.lane_ssa.specs.Counts.{counted}
use Rattle.block_lines.proofs.Simulated.{added_lines, kept_many}
use Rattle.block_lines.proofs.scanning.scan_block.Goals as goal

pub returns-in-Ok-clause-lines : goal.returns-in-Ok-clause-lines
returns-in-Ok-clause-lines c rows q good simulates single =
    added_lines c.args.frame.now.job q simulates single rows c.args.into.now c.scan_rows.new.sink (c.in-Ok.ensures.rows rows good)

pub returns-in-Ok-clause-kept : goal.returns-in-Ok-clause-kept
returns-in-Ok-clause-kept c rows q good simulates =
    c.in-Ok.ensures.kept rows good ∙ ap (counted c.args.frame.now.kept) (kept_many c.args.frame.now.job q simulates rows)
