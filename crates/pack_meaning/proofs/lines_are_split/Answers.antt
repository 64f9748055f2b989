use Rattle.pack_meaning.proofs.Splitting.{lines_split}
use Rattle.pack_meaning.proofs.lines_are_split.Goals as goal

pub returns : goal.returns
returns c = lines_split
