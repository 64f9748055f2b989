use Rattle.std.proofs.Common.{ap, sym, subst, ◌∙◌}
use Rattle.batch_groups.specs.Gathered.{Gathered}
use Rattle.std.specs.Prelude.{All}
use Rattle.group_out.specs.Summaries.{IsPrintableRow}
use Rattle.batch_groups.proofs.Summing.{finished}
use Rattle.batch_groups.proofs.Showing.{rows_shown}
use Rattle.batch_groups.proofs.sink.GroupSink.into_rows.Goals as goal

pub returns-clause-rows : goal.returns-clause-rows
returns-clause-rows c rows stand =
    finished c.args.self c.self.inside.groups c.in_ok-rows.rows rows (ap (λ (g : Gathered). g.groups) c.self.view_is) (ap (λ (g : Gathered). g.over) (sym c.self.view_is) ∙ c.if-self.false) c.know.ensures.apart c.know.ensures.few c.in_ok-rows.ensures stand

pub returns-clause-printable : goal.returns-clause-printable
returns-clause-printable c =
    let held = c.self.inside.groups in
    subst (All IsPrintableRow) (sym c.in_ok-rows.ensures) (rows_shown held.names c.self.invariant.rows held.entries c.self.invariant.printable c.know.ensures.apart c.self.invariant.stand)
