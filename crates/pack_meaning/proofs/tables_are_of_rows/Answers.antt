use Rattle.pack_meaning.proofs.Tables.{table_is_of}
use Rattle.pack_meaning.proofs.tables_are_of_rows.Goals as goal

pub returns : goal.returns
returns c = table_is_of
