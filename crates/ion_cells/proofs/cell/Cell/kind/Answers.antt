use Rattle.std.proofs.Common.{◌∙◌}
use Rattle.ion_cells.proofs.Denoting.{kind_in}
use Rattle.ion_cells.proofs.cell.Cell.kind.Goals as goal

pub returns : goal.returns
returns c table h = c.kind.ensures ∙ kind_in c.args.self.now table h
