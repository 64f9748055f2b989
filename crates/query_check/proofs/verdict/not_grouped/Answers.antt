use Rattle.std.proofs.Common.{◌∙◌, ap}
use Rattle.query_tree.specs.Queries.{outs_view, query_view}
use Rattle.query_check.proofs.FaultOrder.{whole_rows, by_outputs}
use Rattle.query_check.proofs.verdict.not_grouped.Goals as goal

pub returns-in-Star : goal.returns-in-Star
returns-in-Star c = whole_rows (query_view c.args.query.now) (outs_view c.args.query.now.outputs) c.args.grouped c.requires.grouped c.if-not-grouped.false (ap outs_view c.in-Star.is)

pub returns-in-Named : goal.returns-in-Named
returns-in-Named c = c.first_place.ensures ∙ by_outputs (query_view c.args.query.now) (outs_view c.args.query.now.outputs) _ c.args.grouped c.requires.grouped c.if-not-grouped.false (ap outs_view c.in-Named.is)
