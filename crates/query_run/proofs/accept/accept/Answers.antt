use Rattle.query_run.proofs.accept.accept.Goals as goal

pub returns-in-Err-clause-refused : goal.returns-in-Err-clause-refused
returns-in-Err-clause-refused c = c.unread.ensures c.args.sql.now c.in-Err.ensures.exact
