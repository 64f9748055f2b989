use Rattle.std.proofs.Common.{◌∙◌, sym, ap, length}
use Rattle.query_tree.specs.Queries.{query_view}
use Rattle.query_check.specs.Faults.{place_view}
use Rattle.query_check.proofs.Limits.{long_path, many_aggregates, none_passed, is_some_of}
use Rattle.query_check.proofs.firsts.passed_limit.Goals as goal

pub returns-then-is_some : goal.returns-then-is_some
returns-then-is_some c = sym (long_path (query_view c.args.query.now) c.requires.within (is_some_of place_view c.first_place.result _ c.is_some.result c.is_some.ensures c.first_place.ensures ∙ c.if-is_some.true))

pub returns-then-len-gt64 : goal.returns-then-len-gt64
returns-then-len-gt64 c = sym (many_aggregates (query_view c.args.query.now) c.requires.within c.len.result (is_some_of place_view c.first_place.result _ c.is_some.result c.is_some.ensures c.first_place.ensures ∙ c.if-is_some.false) (c.len.ensures ∙ ap length c.requires.found) c.if-len-gt64.true)

pub returns-else-len-gt64 : goal.returns-else-len-gt64
returns-else-len-gt64 c = sym (none_passed (query_view c.args.query.now) c.requires.within c.len.result (is_some_of place_view c.first_place.result _ c.is_some.result c.is_some.ensures c.first_place.ensures ∙ c.if-is_some.false) (c.len.ensures ∙ ap length c.requires.found) c.if-len-gt64.false)
