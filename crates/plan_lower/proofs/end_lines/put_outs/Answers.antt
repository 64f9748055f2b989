use Rattle.std.proofs.Common.{sym}
use Rattle.lane_ssa.specs.EndParts.{out_view}
use Rattle.plan_lower.specs.Listing.{out_line}
use Rattle.plan_lower.proofs.Lines.{lines_more}
use Rattle.plan_lower.proofs.end_lines.put_outs.Goals as goal

pub loop-at-preserved : goal.loop-at-preserved
loop-at-preserved c =
    lines_more out_line c.args.text.now c.loop-at.text c.put_out.new.text c.args.outs.now c.loop-at.at (out_view c.in-Some.out.now) (sym c.in-Some.ensures) c.loop-at.invariant c.in_ok-put_out.ensures
