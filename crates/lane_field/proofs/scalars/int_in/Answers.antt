use Rattle.std.proofs.Common.{pos, Option, Some, None, ℤ, w64, to_z-of_z, FitsSigned, rules, ap}
use Rattle.std.specs.Prelude.{unwrap_or}
use Rattle.ion_cells.specs.Values.{int_of}
use Rattle.lane_field.proofs.OwnTables.{of_cell}
use Rattle.lane_field.proofs.scalars.int_in.Goals as goal

abbrev or_zero : Option ℤ → ℤ
or_zero o = unwrap_or o (pos 0)

abbrev none : Option ℤ
none = None

pub returns-in-Some-int : goal.returns-in-Some-int
returns-in-Some-int c table h =
    let f : FitsSigned w64 c.in-Some-int.number = search rules in
    simp to_z-of_z (ap or_zero (of_cell int_of c.args.cell c.in-Some.cell (Some c.in-Some-int.number) c.in-Some.is c.in-Some-int.ensures table h))

pub returns-in-None-int : goal.returns-in-None-int
returns-in-None-int c table h = ap or_zero (of_cell int_of c.args.cell c.in-Some.cell none c.in-Some.is c.in-None-int.ensures table h)
