use Rattle.write_meaning.proofs.BlockTables.{one_table}
use Rattle.write_meaning.proofs.rows_have_one_table.Goals as goal

pub returns : goal.returns
returns c = one_table
