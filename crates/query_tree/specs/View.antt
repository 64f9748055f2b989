-- What the code's trees stand for.
use Rattle.std.specs.Prelude.{map, Option, Some, None}
use Rattle.snel_values.specs.declared.steps.Step.{Step as StepCode}
use Rattle.snel_values.specs.declared.steps.Step.TheVariants as step
use Rattle.snel_values.specs.View.{view as value_view}
use Rattle.query_tree.specs.declared.expr.Expr.{Expr}
use Rattle.query_tree.specs.declared.expr.Expr.TheVariants as of
use Rattle.query_tree.specs.declared.arms.Arm.{Arm}
use Rattle.tree_meaning.specs.declared.AggName.{AggName}
use Rattle.tree_meaning.specs.Tree.{Step, name, at, Ex, lit, path, neg, no, bin, is, member, between, matching, choice, cast, call, trunc, extract, shift, agg_of_rows, agg, exs, arms}

abbrev pub step_view : StepCode → Step
step_view (step.Name n) = name n
step_view (step.At i) = at i

abbrev pub agg_with : AggName → Option Ex → Ex
agg_with n None = agg_of_rows n
agg_with n (Some e) = agg n e

abbrev pub view : Expr → Ex
view (of.Lit v) = lit (value_view v)
view (of.Path r ss) = path r (map step_view ss)
view (of.Neg e) = neg e
view (of.Not e) = no e
view (of.Bin o a b) = bin o a b
view (of.Is w e) = is w e
view (of.In e es) = member e (exs es)
view (of.Between e a b) = between e a b
view (of.Match h e t) = matching h e t
view (of.Case a e) = choice (arms a) e
view (of.Cast e c) = cast c e
view (of.Call f es) = call f (exs es)
view (of.Trunc p e) = trunc p e
view (of.Extract p e) = extract p e
view (of.Shift p a e) = shift p a e
view (of.Agg n e) = agg_with n e

abbrev pub arm_view : Arm → Ex × Ex
arm_view a = (a.test, a.value)
