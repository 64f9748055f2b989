use Rattle.std.proofs.Common.{Bool, false, Option, Some, None, ap}
use Rattle.std.specs.Prelude.{unwrap_or}
use Rattle.ion_cells.specs.Values.{truth_of}
use Rattle.lane_field.proofs.OwnTables.{of_cell}
use Rattle.lane_field.proofs.scalars.truth_in.Goals as goal

abbrev or_false : Option Bool → Bool
or_false o = unwrap_or o false

abbrev none : Option Bool
none = None

pub returns-in-Some-boolean : goal.returns-in-Some-boolean
returns-in-Some-boolean c table h =
    ap or_false (of_cell truth_of c.args.cell c.in-Some.cell (Some c.in-Some-boolean.truth) c.in-Some.is c.in-Some-boolean.ensures table h)

pub returns-in-None-boolean : goal.returns-in-None-boolean
returns-in-None-boolean c table h = ap or_false (of_cell truth_of c.args.cell c.in-Some.cell none c.in-Some.is c.in-None-boolean.ensures table h)
