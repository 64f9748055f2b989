-- What kind a cell is of.
use Rattle.std.specs.Prelude.{Bool, if◌then◌else◌}
use Rattle.value_meaning.specs.Val.{Val, missing, null, truth, int, time, text, list, struct}
use Rattle.ion_cells.specs.declared.kind.Kind.{Kind}
use Rattle.ion_cells.specs.declared.kind.Kind.TheVariants as kinds

-- the kind of a cell of this value, by whether it is a symbol cell; no cell denotes MISSING
abbrev pub kind_of : Bool → Val → Kind
kind_of symbol missing = kinds.Null
kind_of symbol null = kinds.Null
kind_of symbol (truth b) = kinds.Bool
kind_of symbol (int n) = kinds.Int
kind_of symbol (time t) = kinds.Time
kind_of symbol (text s) = if symbol then kinds.Symbol else kinds.Text
kind_of symbol (list vs) = kinds.List
kind_of symbol (struct fs) = kinds.Struct
