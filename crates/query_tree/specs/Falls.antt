-- Each tree within is smaller.
use Rattle.std.specs.Prelude.{◌+◌, ◌≤◌, max, List, [], ◌∷◌, map, Some, None}
use Rattle.std.proofs.Common.{arith}
use denote.Param.Weighed.{most}
use Rattle.tree_meaning.specs.Tree.{Ex, size, arms_size, arms, exs_size, exs}
use Rattle.query_tree.specs.declared.expr.Expr.{Expr}
use Rattle.query_tree.specs.declared.expr.Expr.TheVariants as of
use Rattle.query_tree.specs.declared.arms.Arm.{Arm}
use Rattle.query_tree.specs.declared.arms.Arms.TheDeep.{deep-Expr, deep-Arm}
use Rattle.query_tree.specs.View.{view, arm_view}

expr_falls : (e : Expr) → deep-Expr e ≤ size (view e)
expr_falls (of.Lit v) = omega arith
expr_falls (of.Path r ss) = omega arith
expr_falls (of.Neg e) = omega arith
expr_falls (of.Not e) = omega arith
expr_falls (of.Bin o a b) = omega arith
expr_falls (of.Is w e) = omega arith
expr_falls (of.In e es) = omega arith
expr_falls (of.Between e a b) = omega arith
expr_falls (of.Match h e t) = omega arith
expr_falls (of.Case a e) = omega arith
expr_falls (of.Cast e c) = omega arith
expr_falls (of.Call f es) = omega arith
expr_falls (of.Trunc p e) = omega arith
expr_falls (of.Extract p e) = omega arith
expr_falls (of.Shift p a e) = omega arith
expr_falls (of.Agg n None) = omega arith
expr_falls (of.Agg n (Some e)) = omega arith

pub operand_falls : (e : Expr) → max (deep-Expr e) 0 ≤ size (view e)
operand_falls e = omega (arith, expr_falls e)

arms_fall_in : (xs : List Arm) → most deep-Arm xs ≤ arms_size (arms (map arm_view xs))
arms_fall_in [] = omega arith
arms_fall_in (x ∷ xs) = omega (arith, arms_fall_in xs)

pub arms_fall : (xs : List Arm) → max (most deep-Arm xs) 0 ≤ arms_size (arms (map arm_view xs))
arms_fall xs = omega (arith, arms_fall_in xs)

exprs_fall_in : (xs : List Ex) → most (λ x. size x + 1) xs ≤ exs_size (exs xs)
exprs_fall_in [] = omega arith
exprs_fall_in (x ∷ xs) = omega (arith, exprs_fall_in xs)

pub exprs_fall : (xs : List Ex) → max (most (λ x. size x + 1) xs) 0 ≤ exs_size (exs xs)
exprs_fall xs = omega (arith, exprs_fall_in xs)
