use Rattle.std.proofs.Common.{◌≡◌, sym, subst, ap, ◌∙◌, List}
use Rattle.tree_meaning.specs.Tree.{Ex, Query}
use Rattle.tree_meaning.specs.WellFormed.{AreOutputs}
use Rattle.check_meaning.specs.Names.{names}
use Rattle.check_meaning.specs.Places.{output_exs}
use Rattle.program_meaning.specs.Simulation.{is_star}
use Rattle.query_tree.specs.Queries.{query_view}
use Rattle.plan_lower.specs.Emitting.{EmitsAll}
use Rattle.plan_lower.specs.Ends.{registers_of, EmitsEnds, row_ends}
use Rattle.plan_lower.proofs.EndRegisters.{rows_end}
use Rattle.plan_lower.proofs.Showing.{stays_begun}
use Rattle.plan_lower.proofs.endings.emit_row_ends.Goals as goal

pub emit_outs-requires-clause-names : goal.emit_outs-requires-clause-names
emit_outs-requires-clause-names c = c.names.ensures ∙ ap (λ (q : Query). names q.outs) (sym c.query-query.ensures.is)

pub emit_outs-requires-clause-formed : goal.emit_outs-requires-clause-formed
emit_outs-requires-clause-formed c = subst (λ (q : Query). AreOutputs q.outs) (sym c.query-query.ensures.is) c.query-query.ensures.formed.outs

pub emit_sorts-requires : goal.emit_sorts-requires
emit_sorts-requires c = stays_begun c.args.builder.now c.emit_outs.new.builder c.args.keep c.requires.begun c.in_ok-outs.ensures.emitted.extends

pub returns : goal.returns
returns c =
    let q = c.args.checked.now in
    let old = c.args.builder.now in
    let mid = c.emit_outs.new.builder in
    let new = c.emit_sorts.new.builder in
    let keep = c.args.keep in
    let outs = c.in_ok-outs.outs in
    let sorts = c.in_ok-sorts.sorts in
    let same = c.query-query.ensures.is in
    let shown = subst (λ (p : Query). EmitsAll old mid (output_exs p.outs) keep (registers_of outs)) same c.in_ok-outs.ensures.emitted in
    let star = c.is_star.ensures ∙ ap (λ (p : Query). is_star p.outs) same in
    subst (λ e. EmitsEnds old new q keep e) (sym (c.row_ends.ensures ∙ ap (λ b. row_ends keep b outs sorts) star))
    (rows_end q old mid new keep outs sorts c.requires.ungrouped c.requires.begun.mask (c.in_ok-outs.ensures.names ∙ c.names.ensures) shown c.in_ok-sorts.ensures)
