-- Arithmetic on whole numbers, which are unbounded; a result outside the range of a row's numbers is MISSING.
use Rattle.std.specs.Prelude.{ℤ, pos, neg_ℤ, ◌+ℤ◌, ◌-ℤ◌, ◌*ℤ◌, int_le, int_div, int_rem, unsigned_abs, Bool, ◌&&◌, ◌==◌, if◌then◌else◌}
use Rattle.value_meaning.specs.Val.{Val, missing, int}
use Rattle.tree_meaning.specs.declared.BinOp.{BinOp}
use Rattle.tree_meaning.specs.declared.BinOp.TheVariants as op
use Rattle.eval_meaning.specs.Operands.{of_one, of_two, on_number, on_numbers}

-- from -2^63 to 2^63 - 1
abbrev pub fits : ℤ → Bool
fits z = int_le (neg_ℤ (pos 9_223_372_036_854_775_808)) z && int_le z (pos 9_223_372_036_854_775_807)

-- the number, if it is in range
abbrev pub fitted : ℤ → Val
fitted z = if fits z then int z else missing

-- MISSING by 0
abbrev pub unless_by_zero : ℤ → Val → Val
unless_by_zero y v = if unsigned_abs y == 0 then missing else v

-- `+`, `-`, `*`; `/`, whose quotient is cut towards zero, and `%`, whose rest has the dividend's sign; the other
-- operators are no arithmetic
abbrev pub computed : BinOp → ℤ → ℤ → Val
computed op.Add x y = fitted (x +ℤ y)
computed op.Sub x y = fitted (x -ℤ y)
computed op.Mul x y = fitted (x *ℤ y)
computed op.Div x y = unless_by_zero y (fitted (int_div x y))
computed op.Rem x y = unless_by_zero y (fitted (int_rem x y))
computed op.Eq x y = missing
computed op.Ne x y = missing
computed op.Lt x y = missing
computed op.Le x y = missing
computed op.Gt x y = missing
computed op.Ge x y = missing
computed op.And x y = missing
computed op.Or x y = missing

-- an operator of arithmetic
abbrev pub arithmetic : BinOp → Val → Val → Val
arithmetic op = of_two (on_numbers (computed op))

-- `-a`
abbrev pub negative : Val → Val
negative = of_one (on_number (λ n. fitted (neg_ℤ n)))
