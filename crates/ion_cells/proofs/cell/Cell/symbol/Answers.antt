use Rattle.ion_cells.specs.Shown.{shown, cell_last}
use Rattle.ion_cells.proofs.Denoting.{symbol_text}
use Rattle.ion_cells.proofs.cell.Cell.symbol.Goals as goal

pub returns-in-Symbol-clause-text : goal.returns-in-Symbol-clause-text
returns-in-Symbol-clause-text c table h =
    symbol_text table (cell_last c.args.self.now) c.in-Symbol.number (shown table c.args.self.now) h c.in-Symbol.ensures.within (c.in-Symbol.ensures.value table h)
