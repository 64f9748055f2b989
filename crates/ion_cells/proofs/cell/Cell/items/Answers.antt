use Rattle.ion_cells.specs.Shown.{shown}
use Rattle.ion_cells.proofs.Denoting.{items_are}
use Rattle.ion_cells.proofs.cell.Cell.items.Goals as goal

pub returns-in-List-clause-values : goal.returns-in-List-clause-values
returns-in-List-clause-values c table h = items_are table c.in-List.cells (shown table c.args.self.now) (c.in-List.ensures.value table h)
