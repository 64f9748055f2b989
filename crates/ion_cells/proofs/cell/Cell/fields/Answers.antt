use Rattle.ion_cells.specs.Shown.{shown}
use Rattle.ion_cells.proofs.Denoting.{pairs_are}
use Rattle.ion_cells.proofs.cell.Cell.fields.Goals as goal

pub returns-in-Struct-clause-pairs : goal.returns-in-Struct-clause-pairs
returns-in-Struct-clause-pairs c table h = pairs_are table c.in-Struct.pairs (shown table c.args.self.now) (c.in-Struct.ensures.value table h)
