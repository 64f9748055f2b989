use Rattle.made_meaning.proofs.Ungrouped.{made_by_rows}
use Rattle.made_meaning.proofs.ungrouped_makes_rows.Goals as goal

pub returns : goal.returns
returns c = made_by_rows
