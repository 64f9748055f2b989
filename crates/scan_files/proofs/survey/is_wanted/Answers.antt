use Rattle.scan_files.proofs.Limits.{test_is}
use Rattle.scan_files.proofs.survey.is_wanted.Goals as goal

pub returns : goal.returns
returns c = test_is c.args.entry.now c.args.limits.now c.excluded.result c.excluded.ensures
