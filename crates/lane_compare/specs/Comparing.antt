-- The operators that compare.
use Rattle.std.specs.Prelude.{Bool, true, false}
use Rattle.tree_meaning.specs.declared.BinOp.{BinOp}
use Rattle.tree_meaning.specs.declared.BinOp.TheVariants as op

-- `=`, `<>`, `<`, `<=`, `>` and `>=`
abbrev pub is_comparison : BinOp → Bool
is_comparison op.Eq = true
is_comparison op.Ne = true
is_comparison op.Lt = true
is_comparison op.Le = true
is_comparison op.Gt = true
is_comparison op.Ge = true
is_comparison op.Add = false
is_comparison op.Sub = false
is_comparison op.Mul = false
is_comparison op.Div = false
is_comparison op.Rem = false
is_comparison op.And = false
is_comparison op.Or = false
