use Rattle.block_meaning.proofs.StoredCells.{cell_stored}
use Rattle.block_meaning.proofs.cells_are_stored.Goals as goal

pub returns : goal.returns
returns c = cell_stored
