use Rattle.std.proofs.Common.{◌≡◌, ℕ, List, ◌++◌, OnOk, true, false, sym, subst, ap, ◌∙◌}
use Rattle.block_meaning.specs.Tables.{Table}
use Rattle.answer_meaning.specs.Made.{pairs_of}
use Rattle.answer_meaning.specs.Lines.{line_text}
use Rattle.program_meaning.specs.Jobs.{Ends, Job}
use Rattle.ion_cells.specs.Shown.{shown}
use Rattle.lane_ssa.specs.Frames.{state_at}
use Rattle.block_lines.specs.RowLines.{shown_pairs}
use Rattle.block_lines.proofs.RowAt.{star_line, outputs_line}
use Rattle.block_lines.proofs.one_line.append_line.Goals as goal

pub returns-then-ends : goal.returns-then-ends
returns-then-ends c row at =
    let star : c.args.frame.now.job.ends.star ≡ true = ap (λ (j : Job). j.ends.star) (sym c.job.ensures) ∙ (ap (λ (e : Ends). e.star) (sym c.ends.ensures.value) ∙ c.if-ends.true) in
    let line = star_line c.args.frame.now.job c.args.block.now.1 c.args.first c.args.lane c.requires.lane row (shown c.args.block.now.0 c.row.result) at c.row.ensures.row star in
    let text = ap (λ (t : Table). line_text (pairs_of (shown t c.row.result))) c.table.ensures ∙ line in
    subst (λ (l : List ℕ). OnOk c.append_row.result (c.append_row.new.into ≡ c.args.into.now ++ l)) text c.append_row.ensures.ok

pub returns-else-ends : goal.returns-else-ends
returns-else-ends c row at =
    let star : c.args.frame.now.job.ends.star ≡ false = ap (λ (j : Job). j.ends.star) (sym c.job.ensures) ∙ (ap (λ (e : Ends). e.star) (sym c.ends.ensures.value) ∙ c.if-ends.false) in
    let line = outputs_line c.args.frame.now.job row (state_at c.args.block.now.0 c.args.frame.now c.args.lane) _ at (c.requires.ran.ran c.args.lane c.requires.lane) star in
    let text = ap (λ (t : Table). line_text (shown_pairs (state_at t c.args.frame.now c.args.lane) c.args.frame.now.job.ends.outs)) c.table-else-ends.ensures ∙ line in
    subst (λ (l : List ℕ). OnOk c.append_outputs.result (c.append_outputs.new.into ≡ c.args.into.now ++ l)) text c.append_outputs.ensures
