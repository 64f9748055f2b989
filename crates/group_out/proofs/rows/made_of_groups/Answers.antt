use Rattle.std.proofs.Common.{sym, ◌∙◌, arith}
use Rattle.hash_agg.specs.Finished.{row_view}
use Rattle.group_out.specs.Summaries.{IsPrintableRow}
use Rattle.group_out.proofs.Each.{each_of, holds_at}
use Rattle.group_out.proofs.OutputLines.{made_more, all_rows}
use Rattle.group_out.proofs.GroupValues.{all_made}
use Rattle.group_out.proofs.rows.made_of_groups.Goals as goal

pub add_made-requires : goal.add_made-requires
add_made-requires c =
    holds_at IsPrintableRow c.args.rows.now c.loop-at.at (row_view c.in-Some.row.now) (each_of IsPrintableRow c.args.rows.now c.requires) (sym c.in-Some.ensures)

pub loop-at-preserved : goal.loop-at-preserved
loop-at-preserved c =
    made_more c.args.checked.now c.args.rows.now c.loop-at.at (row_view c.in-Some.row.now) _ _ (sym c.in-Some.ensures) c.in_ok-add_made.ensures c.loop-at.invariant

pub returns-clause-of_rows : goal.returns-clause-of_rows
returns-clause-of_rows c =
    all_rows c.args.checked.now c.args.rows.now c.loop-at.at _ (omega (arith, c.loop-at-test.false, c.len-at-end.ensures)) c.loop-at.invariant

pub returns-clause-of_groups : goal.returns-clause-of_groups
returns-clause-of_groups c groups all =
    all_rows c.args.checked.now c.args.rows.now c.loop-at.at _ (omega (arith, c.loop-at-test.false, c.len-at-end.ensures)) c.loop-at.invariant
    ∙ all_made c.args.checked.now groups c.args.rows.now all
