use Rattle.std.proofs.Common.{◌≡◌, sym, subst, ap, ◌∙◌, List, All}
use Rattle.tree_meaning.specs.Tree.{Ex, Query, exs}
use Rattle.tree_meaning.specs.WellFormed.{IsFormed, AreFormed}
use Rattle.program_meaning.specs.Simulation.{is_star}
use Rattle.query_tree.specs.Queries.{query_view}
use Rattle.plan_lower.specs.Emitting.{EmitsAll}
use Rattle.plan_lower.specs.Ends.{EmitsEnds, group_ends}
use Rattle.plan_lower.proofs.AggregateForms.{list_formed}
use Rattle.plan_lower.proofs.EndRegisters.{groups_end}
use Rattle.plan_lower.proofs.Showing.{stays_begun}
use Rattle.plan_lower.proofs.endings.emit_group_ends.Goals as goal

pub emit_list-requires-clause-formed : goal.emit_list-requires-clause-formed
emit_list-requires-clause-formed c = subst (λ (q : Query). AreFormed (exs q.keys)) (sym c.query-query.ensures.is) (list_formed c.args.checked.now.keys c.query-query.ensures.formed.keys)

pub emit_aggs-requires : goal.emit_aggs-requires
emit_aggs-requires c = stays_begun c.args.builder.now c.emit_list.new.builder c.args.keep c.requires.begun c.in_ok-groups.ensures.extends

pub returns : goal.returns
returns c =
    let q = c.args.checked.now in
    let old = c.args.builder.now in
    let mid = c.emit_list.new.builder in
    let new = c.emit_aggs.new.builder in
    let keep = c.args.keep in
    let groups = c.in_ok-groups.groups in
    let aggs = c.in_ok-aggs.aggs in
    let same = c.query-query.ensures.is in
    let keyed = subst (λ (p : Query). EmitsAll old mid p.keys keep groups) same c.in_ok-groups.ensures in
    let star = c.is_star.ensures ∙ ap (λ (p : Query). is_star p.outs) same in
    subst (λ e. EmitsEnds old new q keep e) (sym (c.group_ends.ensures ∙ ap (λ b. group_ends keep b groups aggs) star))
    (groups_end q old mid new keep groups aggs c.requires.grouped c.requires.begun.mask keyed c.in_ok-aggs.ensures)
