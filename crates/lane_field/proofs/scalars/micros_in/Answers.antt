use Rattle.std.proofs.Common.{pos, Option, Some, None, ℤ, w64, to_z-of_z, FitsSigned, rules, ap}
use Rattle.std.specs.Prelude.{unwrap_or}
use Rattle.ion_cells.specs.Values.{time_of}
use Rattle.lane_field.proofs.OwnTables.{of_cell}
use Rattle.lane_field.proofs.scalars.micros_in.Goals as goal

abbrev or_zero : Option ℤ → ℤ
or_zero o = unwrap_or o (pos 0)

abbrev none : Option ℤ
none = None

pub returns-in-Some-micros : goal.returns-in-Some-micros
returns-in-Some-micros c table h =
    let f : FitsSigned w64 c.in-Some-micros.micros = search rules in
    simp to_z-of_z (ap or_zero (of_cell time_of c.args.cell c.in-Some.cell (Some c.in-Some-micros.micros) c.in-Some.is c.in-Some-micros.ensures.time table h))

pub returns-in-None-micros : goal.returns-in-None-micros
returns-in-None-micros c table h = ap or_zero (of_cell time_of c.args.cell c.in-Some.cell none c.in-Some.is c.in-None-micros.ensures.time table h)
