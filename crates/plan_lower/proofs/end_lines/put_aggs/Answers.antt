use Rattle.std.proofs.Common.{sym}
use Rattle.lane_ssa.specs.EndParts.{agg_end_view}
use Rattle.plan_lower.specs.Listing.{agg_line}
use Rattle.plan_lower.proofs.Lines.{lines_more}
use Rattle.plan_lower.proofs.end_lines.put_aggs.Goals as goal

pub loop-at-preserved : goal.loop-at-preserved
loop-at-preserved c =
    lines_more agg_line c.args.text.now c.loop-at.text c.put_agg.new.text c.args.aggs.now c.loop-at.at (agg_end_view c.in-Some.agg) (sym c.in-Some.ensures) c.loop-at.invariant c.in_ok-put_agg.ensures
