-- The value of a form is what it makes of the values of its operands.
use Rattle.std.proofs.Common.{◌≡◌, refl, ap, sym, List, [], ◌∷◌, map, Some}
use Rattle.tree_meaning.specs.Tree.{Ex, lit, path, neg, no, bin, is, member, between, matching, choice, cast, call, trunc, extract, shift, agg_of_rows, agg, exs, items}
use Rattle.eval_meaning.specs.Pair.{Pair}
use Rattle.eval_meaning.specs.Evaluation.{eval, evals}
use Rattle.plan_lower.specs.Operands.{operand_of, of_operand, operands_of, of_operands}
use Rattle.plan_lower.proofs.Items.{some_is}
use Rattle.plan_lower.proofs.Showing.{ap2}

pub value_of_one : (e d : Ex) (p : Pair) → operand_of e ≡ Some d → of_operand e (eval d p) ≡ eval e p
value_of_one (neg e) d p h = ap (λ x. of_operand (neg e) (eval x p)) (sym (some_is e d h))
value_of_one (no e) d p h = ap (λ x. of_operand (no e) (eval x p)) (sym (some_is e d h))
value_of_one (is w e) d p h = ap (λ x. of_operand (is w e) (eval x p)) (sym (some_is e d h))
value_of_one (matching m e s) d p h = ap (λ x. of_operand (matching m e s) (eval x p)) (sym (some_is e d h))
value_of_one (cast c e) d p h = ap (λ x. of_operand (cast c e) (eval x p)) (sym (some_is e d h))
value_of_one (trunc q e) d p h = ap (λ x. of_operand (trunc q e) (eval x p)) (sym (some_is e d h))
value_of_one (extract q e) d p h = ap (λ x. of_operand (extract q e) (eval x p)) (sym (some_is e d h))
value_of_one (lit v) d p h = cc
value_of_one (path r ss) d p h = cc
value_of_one (bin o a b) d p h = cc
value_of_one (member e es) d p h = cc
value_of_one (between e a b) d p h = cc
value_of_one (choice r e) d p h = cc
value_of_one (call f es) d p h = cc
value_of_one (shift q a e) d p h = cc
value_of_one (agg_of_rows n) d p h = cc
value_of_one (agg n e) d p h = cc

pub value_of_two : (e c d : Ex) (p : Pair) → operands_of e ≡ Some (c, d) → of_operands e (eval c p) (eval d p) ≡ eval e p
value_of_two (bin o a b) c d p h =
    let w : (a, b) ≡ (c, d) = some_is (a, b) (c, d) h in
    sym (ap2 (λ x y. of_operands (bin o a b) (eval x p) (eval y p)) (ap (λ z. z.0) w) (ap (λ z. z.1) w))
value_of_two (shift q a b) c d p h =
    let w : (a, b) ≡ (c, d) = some_is (a, b) (c, d) h in
    sym (ap2 (λ x y. of_operands (shift q a b) (eval x p) (eval y p)) (ap (λ z. z.0) w) (ap (λ z. z.1) w))
value_of_two (lit v) c d p h = cc
value_of_two (path r ss) c d p h = cc
value_of_two (neg e) c d p h = cc
value_of_two (no e) c d p h = cc
value_of_two (is w e) c d p h = cc
value_of_two (member e es) c d p h = cc
value_of_two (between e a b) c d p h = cc
value_of_two (matching m e s) c d p h = cc
value_of_two (choice r e) c d p h = cc
value_of_two (cast t e) c d p h = cc
value_of_two (call f es) c d p h = cc
value_of_two (trunc q e) c d p h = cc
value_of_two (extract q e) c d p h = cc
value_of_two (agg_of_rows n) c d p h = cc
value_of_two (agg n e) c d p h = cc

-- the values of expressions
pub values_of : (es : List Ex) (p : Pair) → map (λ e. eval e p) es ≡ evals (exs es) p
values_of [] p = refl
values_of (e ∷ es) p = ap (λ vs. eval e p ∷ vs) (values_of es p)

pub items_exs : (es : List Ex) → items (exs es) ≡ es
items_exs [] = refl
items_exs (e ∷ es) = ap (λ l. e ∷ l) (items_exs es)
