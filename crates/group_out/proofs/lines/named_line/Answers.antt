use Rattle.std.proofs.Common.{◌≡◌, ◌∙◌, ap, subst, arith}
use Rattle.std.specs.Prelude.{IfOk}
use Rattle.answer_meaning.specs.Lines.{line_text}
use Rattle.json_out.specs.Begun.{begun}
use Rattle.hash_agg.specs.Finished.{row_view}
use Rattle.group_out.proofs.OutputLines.{there_is, one_more, all_values}
use Rattle.group_out.proofs.lines.named_line.Goals as goal

pub loop-at-preserved : goal.loop-at-preserved
loop-at-preserved c =
    let here = there_is c.args.items.now c.loop-at.at (omega (arith, c.loop-at-test.true, c.len-at-end.ensures)) in
    c.in_ok-put_output.ensures _ here.0 c.loop-at.invariant here.1
    ∙ ap begun (one_more c.args.checked.now (row_view c.args.row.now) c.args.items.now c.loop-at.at here.0 here.1)

pub returns : goal.returns
returns c =
    subst (λ o. IfOk c.finish.result (λ line. line ≡ line_text o))
    (all_values c.args.checked.now (row_view c.args.row.now) c.args.items.now c.loop-at.at (omega (arith, c.loop-at-test.false, c.len-at-end.ensures)))
    (c.finish.ensures.pairs _ c.loop-at.invariant)
