-- Comparisons, and what is made of them: IN, BETWEEN, NULLIF.
use Rattle.std.specs.Prelude.{Bool, false, List, [], ◌∷◌, Option, None, Some, if◌then◌else◌}
use Rattle.std.specs.declared.cmp.Ordering.{Ordering}
use Rattle.std.specs.Ordering.{nat_cmp, int_cmp, bool_cmp, is_eq, is_ne, is_lt, is_le, is_gt, is_ge}
use Rattle.std.specs.Cmp.Lexicographic.{slice_cmp}
use Rattle.value_meaning.specs.Val.{Val, missing, null, truth, int, time, text}
use Rattle.tree_meaning.specs.declared.BinOp.{BinOp}
use Rattle.tree_meaning.specs.declared.BinOp.TheVariants as op
use Rattle.eval_meaning.specs.Logic.{and_of, or_of, is_true}
use Rattle.eval_meaning.specs.Operands.{of_two}

-- how two values stand to each other that can be compared: two numbers, two times, two truth values, false below true,
-- or two texts by bytes
abbrev pub order_of : Val → Val → Option Ordering
order_of (truth a) (truth b) = Some (bool_cmp a b)
order_of (int a) (int b) = Some (int_cmp a b)
order_of (time a) (time b) = Some (int_cmp a b)
order_of (text a) (text b) = Some (slice_cmp nat_cmp a b)
order_of v w = None

-- `=`, `<>`, `<`, `<=`, `>` and `>=`; the other operators compare nothing
abbrev pub meets : BinOp → Ordering → Bool
meets op.Eq o = is_eq o
meets op.Ne o = is_ne o
meets op.Lt o = is_lt o
meets op.Le o = is_le o
meets op.Gt o = is_gt o
meets op.Ge o = is_ge o
meets op.Add o = false
meets op.Sub o = false
meets op.Mul o = false
meets op.Div o = false
meets op.Rem o = false
meets op.And o = false
meets op.Or o = false

-- whether two values that can be compared meet the operator, else MISSING
abbrev pub compared : BinOp → Option Ordering → Val
compared op None = missing
compared op (Some o) = truth (meets op o)

-- a comparison
abbrev pub compare : BinOp → Val → Val → Val
compare op = of_two (λ a b. compared op (order_of a b))

-- IN: the OR of the equalities with the members
abbrev pub member_of : Val → List Val → Val
member_of v [] = truth false
member_of v (w ∷ ws) = or_of (compare op.Eq v w) (member_of v ws)

-- BETWEEN: `v >= low AND v <= high`
abbrev pub between_of : Val → Val → Val → Val
between_of v low high = and_of (compare op.Ge v low) (compare op.Le v high)

-- NULLIF: NULL where `a = b` is true, else a
abbrev pub null_if : Val → Val → Val
null_if a b = if is_true (compare op.Eq a b) then null else a
