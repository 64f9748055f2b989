use Rattle.sql_print.proofs.Members.{each_formed}
use Rattle.sql_print.proofs.clauses.put_groups.Goals as goal

pub put_exprs-requires : goal.put_exprs-requires
put_exprs-requires c = each_formed c.args.keys.now c.requires
