use Rattle.ion_cells.specs.Shown.{shown, cell_bytes, cell_last}
use Rattle.ion_cells.proofs.Stands.{legal_stands}
use Rattle.ion_cells.proofs.cell.Cell.bytes.Goals as goal

pub returns-clause-cell : goal.returns-clause-cell
unfolding shown cell_bytes cell_last
returns-clause-cell c table h = legal_stands table c.args.self.now.last c.args.self.now.bytes.now c.args.self.now.legal h
