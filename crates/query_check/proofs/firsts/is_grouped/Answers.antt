use Rattle.std.proofs.Common.{◌∙◌, sym}
use Rattle.query_tree.specs.Queries.{query_view}
use Rattle.query_check.proofs.Limits.{grouped_by_keys, grouped_by_having, grouped_by_aggregate, is_some_of}
use Rattle.query_check.specs.Faults.{place_view}
use Rattle.query_check.proofs.firsts.is_grouped.Goals as goal

pub returns-then-len-gt0 : goal.returns-then-len-gt0
returns-then-len-gt0 c = grouped_by_keys (query_view c.args.query.now) c.len.result c.len.ensures c.if-len-gt0.true

pub returns-then-is_some : goal.returns-then-is_some
returns-then-is_some c = grouped_by_having (query_view c.args.query.now) c.len.result c.len.ensures c.if-len-gt0.false (sym c.is_some.ensures ∙ c.if-is_some.true)

pub returns : goal.returns
returns c = sym (is_some_of place_view c.first_place.result _ c.is_some-2.result c.is_some-2.ensures c.first_place.ensures) ∙ grouped_by_aggregate (query_view c.args.query.now) c.len.result c.len.ensures c.if-len-gt0.false (sym c.is_some.ensures ∙ c.if-is_some.false)
