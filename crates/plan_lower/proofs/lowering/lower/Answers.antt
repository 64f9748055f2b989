use Rattle.std.proofs.Common.{ap, sym, subst, ◌∙◌}
use Rattle.tree_meaning.specs.Tree.{Query}
use Rattle.program_meaning.specs.Programs.{mask_count, value_count, IsProgram}
use Rattle.program_meaning.specs.Simulation.{Simulates}
use Rattle.query_tree.specs.Queries.{query_view}
use Rattle.lane_ssa.specs.Views.{ends_view}
use Rattle.plan_lower.specs.Emitting.{Keeps}
use Rattle.plan_lower.proofs.EndJobs.{are_ends, simulates}
use Rattle.plan_lower.proofs.lowering.lower.Goals as goal

pub finish-requires : goal.finish-requires
finish-requires c =
    let q = c.args.checked.now in
    let first = c.in_ok-builder.builder in
    let kept = c.emit_filter.new.builder in
    let keep = c.in_ok-keep.keep in
    let filtered = subst (λ (p : Query). Keeps first kept p.filter 0 keep) c.query.ensures.is c.in_ok-keep.ensures in
    are_ends q (ends_view c.in_ok-ends.ends) first kept c.emit_ends.new.builder keep c.in_ok-builder.ensures filtered c.in_ok-ends.ensures

pub returns : goal.returns
returns c =
    let q = c.args.checked.now in
    let first = c.in_ok-builder.builder in
    let kept = c.emit_filter.new.builder in
    let keep = c.in_ok-keep.keep in
    let filtered = subst (λ (p : Query). Keeps first kept p.filter 0 keep) c.query.ensures.is c.in_ok-keep.ensures in
    simulates q (ends_view c.in_ok-ends.ends) first kept c.emit_ends.new.builder keep c.in_ok-builder.ensures filtered c.in_ok-ends.ensures
    c.finish.result (subst IsProgram c.finish.ensures.program c.finish.ensures.job.program) c.finish.ensures.program c.finish.ensures.ends
