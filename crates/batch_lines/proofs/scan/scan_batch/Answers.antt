use Rattle.query_tree.specs.Queries.{query_view}
use Rattle.scan_files.specs.Places.{blocks_held}
use Rattle.batch_lines.proofs.Made.{scanned_ok}
use Rattle.batch_lines.proofs.scan.scan_batch.Goals as goal

pub returns-clause-scanned : goal.returns-clause-scanned
returns-clause-scanned g c =
    scanned_ok c.scan_lines.result c.args.job.now (query_view c.args.query.now) c.requires.simulates c.requires.plain (blocks_held c.args.fields.now c.args.blocks.now) c.clear.new.self c.scan_lines.new.lines _ _ _ _ c.clear.ensures c.scan_lines.ensures.handed
