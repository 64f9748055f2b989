-- The operators of arithmetic.
use Rattle.std.specs.Prelude.{Bool, true, false}
use Rattle.tree_meaning.specs.declared.BinOp.{BinOp}
use Rattle.tree_meaning.specs.declared.BinOp.TheVariants as op

-- `+`, `-`, `*`, `/` and `%`
abbrev pub is_arithmetic : BinOp → Bool
is_arithmetic op.Add = true
is_arithmetic op.Sub = true
is_arithmetic op.Mul = true
is_arithmetic op.Div = true
is_arithmetic op.Rem = true
is_arithmetic op.Eq = false
is_arithmetic op.Ne = false
is_arithmetic op.Lt = false
is_arithmetic op.Le = false
is_arithmetic op.Gt = false
is_arithmetic op.Ge = false
is_arithmetic op.And = false
is_arithmetic op.Or = false
