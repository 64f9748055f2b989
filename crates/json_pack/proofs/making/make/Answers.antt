use Rattle.json_pack.proofs.Fronts.{is_there}
use Rattle.json_pack.proofs.Logs.{sets_made, leaves_made, only_made}
use Rattle.json_pack.proofs.making.make.Goals as goal

pub fill_log-requires-clause-there : goal.fill_log-requires-clause-there
fill_log-requires-clause-there g c = is_there _ _ _ c.in-Ok.ensures.made

pub returns-in-Ok-clause-file : goal.returns-in-Ok-clause-file
returns-in-Ok-clause-file g c = sets_made c.fill_log.result _ _ _ _ _ c.in-Ok.ensures.made c.fill_log.ensures.file

pub returns-in-Ok-clause-front : goal.returns-in-Ok-clause-front
returns-in-Ok-clause-front g c = leaves_made c.fill_log.result c.args.start c.args.rows _ _ _ _ c.in-Ok.ensures.made c.fill_log.ensures.front

pub returns-in-Ok-clause-only : goal.returns-in-Ok-clause-only
returns-in-Ok-clause-only g c = only_made c.fill_log.result c.fill_log.ensures.only
