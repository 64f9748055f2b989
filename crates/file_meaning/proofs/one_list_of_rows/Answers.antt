use Rattle.file_meaning.proofs.FileRows.{one_list_of_rows}
use Rattle.file_meaning.proofs.one_list_of_rows.Goals as goal

pub returns : goal.returns
returns c = one_list_of_rows
