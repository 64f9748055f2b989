use Rattle.ion_cells.specs.declared.kind.Kind.TheVariants.{Null, Bool, Int, Time, Symbol, Text, List, Struct}
use Rattle.lane_base.proofs.BitLemmas.{has-zero}
use Rattle.lane_field.proofs.kinds.no_lanes.Goals as goal

pub returns : goal.returns
returns c Null i = has-zero i
returns c Bool i = has-zero i
returns c Int i = has-zero i
returns c Time i = has-zero i
returns c Symbol i = has-zero i
returns c Text i = has-zero i
returns c List i = has-zero i
returns c Struct i = has-zero i
