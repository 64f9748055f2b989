-- The value of an expression on a pair of a row and an item: one case for each form.
use Rattle.std.specs.Prelude.{List, [], ◌∷◌}
use Rattle.value_meaning.specs.Val.{Val, missing}
use Rattle.tree_meaning.specs.declared.BinOp.{BinOp}
use Rattle.tree_meaning.specs.declared.BinOp.TheVariants as op
use Rattle.tree_meaning.specs.declared.Func.{Func}
use Rattle.tree_meaning.specs.declared.Func.TheVariants as func
use Rattle.tree_meaning.specs.Tree.{Ex, Exs, Arms, lit, path, neg, no, bin, is, member, between, matching, choice, cast, call, trunc, extract, shift, agg_of_rows, agg, no_exs, ex, no_arms, arm}
use Rattle.eval_meaning.specs.Logic.{and_of, or_of, not_of, is_of, coalesce, choice_of}
use Rattle.eval_meaning.specs.Comparisons.{compare, member_of, between_of, null_if}
use Rattle.eval_meaning.specs.Numbers.{arithmetic, negative}
use Rattle.eval_meaning.specs.Casts.{cast_of}
use Rattle.eval_meaning.specs.Matching.{matching_of, char_length}
use Rattle.eval_meaning.specs.Times.{trunc_of, extract_of, shift_of, unix_epoch, unix_micro}
use Rattle.eval_meaning.specs.Paths.{path_of}
use Rattle.eval_meaning.specs.Pair.{Pair, source_of}

-- an operator of two operands
abbrev pub binary : BinOp → Val → Val → Val
binary op.Add = arithmetic op.Add
binary op.Sub = arithmetic op.Sub
binary op.Mul = arithmetic op.Mul
binary op.Div = arithmetic op.Div
binary op.Rem = arithmetic op.Rem
binary op.Eq = compare op.Eq
binary op.Ne = compare op.Ne
binary op.Lt = compare op.Lt
binary op.Le = compare op.Le
binary op.Gt = compare op.Gt
binary op.Ge = compare op.Ge
binary op.And = and_of
binary op.Or = or_of

-- a function of one operand, and of two; the grammar gives no other count of them
abbrev pub with_one : (Val → Val) → List Val → Val
with_one f (a ∷ []) = f a
with_one f vs = missing

abbrev pub with_two : (Val → Val → Val) → List Val → Val
with_two f (a ∷ b ∷ []) = f a b
with_two f vs = missing

-- a function of values
abbrev pub call_of : Func → List Val → Val
call_of func.Coalesce = coalesce
call_of func.NullIf = with_two null_if
call_of func.CharLength = with_one char_length
call_of func.UnixEpoch = with_one unix_epoch
call_of func.UnixMicro = with_one unix_micro

-- The value of an expression on a pair. An aggregate has no value on one pair: MISSING, and only grouped queries have any.
abbrev mutual
  pub eval : Ex → Pair → Val
  eval (lit v) pair = v
  eval (path source steps) pair = path_of steps (source_of source pair)
  eval (neg e) pair = negative (eval e pair)
  eval (no e) pair = not_of (eval e pair)
  eval (bin op a b) pair = binary op (eval a pair) (eval b pair)
  eval (is what e) pair = is_of what (eval e pair)
  eval (member e es) pair = member_of (eval e pair) (evals es pair)
  eval (between e low high) pair = between_of (eval e pair) (eval low pair) (eval high pair)
  eval (matching how e pattern) pair = matching_of how pattern (eval e pair)
  eval (choice arms other) pair = choices arms pair (eval other pair)
  eval (cast to e) pair = cast_of to (eval e pair)
  eval (call f es) pair = call_of f (evals es pair)
  eval (trunc part e) pair = trunc_of part (eval e pair)
  eval (extract part e) pair = extract_of part (eval e pair)
  eval (shift part count e) pair = shift_of part (eval count pair) (eval e pair)
  eval (agg_of_rows name) pair = missing
  eval (agg name e) pair = missing

  -- the values of expressions, in order
  pub evals : Exs → Pair → List Val
  evals no_exs pair = []
  evals (ex e es) pair = eval e pair ∷ evals es pair

  -- the value of the first arm whose condition is true, else the other value
  pub choices : Arms → Pair → Val → Val
  choices no_arms pair other = other
  choices (arm test value arms) pair other = choice_of (eval test pair) (eval value pair) (choices arms pair other)
