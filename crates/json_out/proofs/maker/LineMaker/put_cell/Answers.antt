use Rattle.std.proofs.Common.{◌≡◌}
use Rattle.json_out.specs.Begun.{begun}
use Rattle.ion_cells.specs.Shown.{shown}
use Rattle.json_out.proofs.MorePairs.{pair_added}
use Rattle.json_out.proofs.maker.LineMaker.put_cell.Goals as goal

pub returns-in-Ok-clause-pairs : goal.returns-in-Ok-clause-pairs
returns-in-Ok-clause-pairs c =
    λ output e.
    let f : c.self.inside.line ≡ begun output = cc in
    pair_added c.self.inside.line c.put_cell_pair.new.line output c.args.name.now (shown c.args.table.now c.args.cell.now) c.in-Ok.ensures f
