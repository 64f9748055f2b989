use Rattle.pack_meaning.proofs.SameRows.{same_rows}
use Rattle.pack_meaning.proofs.cuts_hold_the_same.Goals as goal

pub returns : goal.returns
returns c = same_rows
