use Rattle.std.proofs.Common.{◌∷◌, [], sym, subst}
use Rattle.std.specs.Prelude.{All}
use Rattle.std.proofs.lemmas.List.Elements.{All-append, All-cons, All-nil}
use Rattle.hash_agg.specs.Finished.{row_view}
use Rattle.group_out.specs.Summaries.{IsPrintableRow}
use Rattle.batch_groups.proofs.Showing.{empty_row_shown}
use Rattle.batch_groups.proofs.sink.or_empty_row.Goals as goal

pub returns-clause-printable : goal.returns-clause-printable
returns-clause-printable c h =
    let row = row_view c.in_ok-empty_row.field-0 in
    let own = subst IsPrintableRow (sym c.in_ok-empty_row.ensures) (empty_row_shown c.as_slice.result.now) in
    subst (All IsPrintableRow) (sym c.in_ok-push.ensures.ok) (All-append IsPrintableRow c.args.rows (row ∷ []) h (All-cons IsPrintableRow row [] own (All-nil IsPrintableRow)))
