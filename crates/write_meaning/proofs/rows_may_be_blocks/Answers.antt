use Rattle.write_meaning.proofs.Bounded.{rows_may_be_blocks}
use Rattle.write_meaning.proofs.rows_may_be_blocks.Goals as goal

pub returns : goal.returns
returns c = rows_may_be_blocks
