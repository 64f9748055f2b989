use Rattle.query_run.proofs.Explaining.{not_compiled}
use Rattle.query_run.proofs.listing.explain.Goals as goal

pub returns-in-Err-clause-ends : goal.returns-in-Err-clause-ends
returns-in-Err-clause-ends g c = not_compiled c.args.sql.now c.in-Err.fault _ c.in-Err.ensures.refused
