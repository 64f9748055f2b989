use Rattle.query_tree.specs.Queries.{query_view}
use Rattle.query_check.proofs.Limits.{many_outputs, many_keys, many_orders}
use Rattle.query_check.proofs.firsts.passed_count.Goals as goal

pub returns-then-output_count-gt256-clause-some : goal.returns-then-output_count-gt256-clause-some
returns-then-output_count-gt256-clause-some c = many_outputs (query_view c.args.query.now) c.output_count.result c.output_count.ensures c.if-output_count-gt256.true

pub returns-then-len-gt16-clause-some : goal.returns-then-len-gt16-clause-some
returns-then-len-gt16-clause-some c = many_keys (query_view c.args.query.now) c.output_count.result c.len.result c.output_count.ensures c.if-output_count-gt256.false c.len.ensures c.if-len-gt16.true

pub returns-then-len-gt16-2-clause-some : goal.returns-then-len-gt16-2-clause-some
returns-then-len-gt16-2-clause-some c = many_orders (query_view c.args.query.now) c.output_count.result c.len.result c.len-else-len-gt16.result c.output_count.ensures c.if-output_count-gt256.false c.len.ensures c.if-len-gt16.false c.len-else-len-gt16.ensures c.if-len-gt16-2.true
