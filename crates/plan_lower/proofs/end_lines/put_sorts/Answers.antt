use Rattle.std.proofs.Common.{sym}
use Rattle.plan_lower.specs.Listing.{sort_line}
use Rattle.plan_lower.proofs.Lines.{lines_more}
use Rattle.plan_lower.proofs.end_lines.put_sorts.Goals as goal

pub loop-at-preserved : goal.loop-at-preserved
loop-at-preserved c =
    lines_more sort_line c.args.text.now c.loop-at.text c.put_sort.new.text c.args.sorts.now c.loop-at.at c.in-Some.register (sym c.in-Some.ensures) c.loop-at.invariant c.in_ok-put_sort.ensures
