use Rattle.time_index.proofs.Labelled.{label_found}
use Rattle.time_index.proofs.soundness.label_of.Goals as goal

pub returns-in-Some : goal.returns-in-Some
returns-in-Some c = label_found c.args.table.now c.args.name.now c.in-Some.number c.know.ensures c.in-Some.ensures.found
