use Rattle.made_meaning.proofs.Ungrouped.{star_rows}
use Rattle.made_meaning.proofs.star_makes_all_rows.Goals as goal

pub returns : goal.returns
returns c = star_rows
