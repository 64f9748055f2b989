use Rattle.block_meaning.proofs.LastSymbol.{last_symbol_decides}
use Rattle.block_meaning.proofs.last_symbol_decides.Goals as goal

pub returns : goal.returns
returns c = last_symbol_decides
