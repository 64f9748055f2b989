use Rattle.block_meaning.proofs.TableReading.{tables_read}
use Rattle.block_meaning.proofs.tables_are_read.Goals as goal

pub returns : goal.returns
returns c = tables_read
