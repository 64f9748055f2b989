use Rattle.lane_field.proofs.OwnTables.{some_fits}
use Rattle.lane_field.proofs.cells.CellLanes.put.Goals as goal

pub returns-clause-fits : goal.returns-clause-fits
returns-clause-fits c = some_fits c.args.cell
