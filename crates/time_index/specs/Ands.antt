-- The operands of an AND.
use Rattle.std.specs.Prelude.{Option, Some, None}
use Rattle.tree_meaning.specs.declared.BinOp.TheVariants as op
use Rattle.tree_meaning.specs.Tree.{Ex, bin}

-- the two operands of an expression that is an AND
abbrev pub and_operands : Ex → Option (Ex × Ex)
and_operands (bin op.And a b) = Some (a, b)
and_operands e = None
