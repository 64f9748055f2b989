use Rattle.block_meaning.proofs.BlockReading.{one_list}
use Rattle.block_meaning.proofs.one_list_of_rows.Goals as goal

pub returns : goal.returns
returns c = one_list
