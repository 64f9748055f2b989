use Rattle.query_tree.specs.Queries.{query_view}
use Rattle.scan_files.proofs.Limits.{added_on, count_on}
use Rattle.scan_files.proofs.survey.add_file.Goals as goal

pub returns-clause-added : goal.returns-clause-added
returns-clause-added c =
    added_on (query_view c.args.query.now) c.args.index.now.field c.as_str-field.result.now c.limits_of-limits.result c.limits_of-limits.ensures c.as_str-field.ensures c.args.file c.args.index.now.entries c.as_slice.result.now c.as_slice.ensures
    c.add_places.result _ _ c.add_places.ensures.added

pub returns-clause-skipped : goal.returns-clause-skipped
returns-clause-skipped c =
    count_on (query_view c.args.query.now) c.args.index.now.field c.as_str-field.result.now c.limits_of-limits.result c.limits_of-limits.ensures c.as_str-field.ensures c.args.file c.args.index.now.entries c.as_slice.result.now c.as_slice.ensures
    c.add_places.result c.add_places.ensures.skipped
