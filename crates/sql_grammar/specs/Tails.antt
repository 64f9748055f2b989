-- Trees over what was read.
use Rattle.std.specs.Option.{option_map}
use Rattle.tree_meaning.specs.declared.BinOp.{BinOp}
use Rattle.tree_meaning.specs.Tree.{Ex, bin, no}
use Rattle.query_meaning.specs.Reading.{Reader}

-- the operation with what is read as its right operand
abbrev pub compared_by : Reader Ex → BinOp → Ex → Reader Ex
compared_by f o e ts = option_map (λ y. (bin o e y.0, y.1)) (f ts)

-- the negation of what is read
abbrev pub denied_by : Reader Ex → Reader Ex
denied_by f ts = option_map (λ x. (no x.0, x.1)) (f ts)
