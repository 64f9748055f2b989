-- The parts of a form are formed, and smaller than it.
use Rattle.std.proofs.Common.{◌≡◌, ℕ, zero, suc, ◌+◌, ◌<◌, ap, subst, arith, List, [], ◌∷◌, length, Some}
use Rattle.std.specs.Prelude.{slice_get}
use Rattle.tree_meaning.specs.declared.Func.{Func}
use Rattle.tree_meaning.specs.Tree.{Ex, lit, path, neg, no, bin, is, member, between, matching, choice, cast, call, trunc, extract, shift, agg_of_rows, agg, exs, items, arms, size, exs_size, arms_size}
use Rattle.tree_meaning.specs.WellFormed.{IsFormed, AreFormed, ArmsAreFormed, TakesArguments}
use Rattle.plan_lower.specs.Operands.{operand_of, operands_of}
use Rattle.plan_lower.proofs.Items.{some_is}
use Rattle.plan_lower.proofs.Operands.{items_exs}

pub operand_formed : (e d : Ex) → operand_of e ≡ Some d → IsFormed e → IsFormed d
operand_formed (neg e) d h f = subst IsFormed (some_is e d h) f
operand_formed (no e) d h f = subst IsFormed (some_is e d h) f
operand_formed (is w e) d h f = subst IsFormed (some_is e d h) f
operand_formed (matching m e s) d h f = subst IsFormed (some_is e d h) f
operand_formed (cast c e) d h f = subst IsFormed (some_is e d h) f
operand_formed (trunc q e) d h f = subst IsFormed (some_is e d h) f.1
operand_formed (extract q e) d h f = subst IsFormed (some_is e d h) f.1
operand_formed (lit v) d h f = cc
operand_formed (path r ss) d h f = cc
operand_formed (bin o a b) d h f = cc
operand_formed (member e es) d h f = cc
operand_formed (between e a b) d h f = cc
operand_formed (choice r e) d h f = cc
operand_formed (call g es) d h f = cc
operand_formed (shift q a e) d h f = cc
operand_formed (agg_of_rows n) d h f = cc
operand_formed (agg n e) d h f = cc

pub operands_formed : (e c d : Ex) → operands_of e ≡ Some (c, d) → IsFormed e → IsFormed c × IsFormed d
operands_formed (bin o a b) c d h f =
    let w : (a, b) ≡ (c, d) = some_is (a, b) (c, d) h in (subst IsFormed (ap (λ z. z.0) w) f.0, subst IsFormed (ap (λ z. z.1) w) f.1)
operands_formed (shift q a b) c d h f =
    let w : (a, b) ≡ (c, d) = some_is (a, b) (c, d) h in (subst IsFormed (ap (λ z. z.0) w) f.1, subst IsFormed (ap (λ z. z.1) w) f.2)
operands_formed (lit v) c d h f = cc
operands_formed (path r ss) c d h f = cc
operands_formed (neg e) c d h f = cc
operands_formed (no e) c d h f = cc
operands_formed (is w e) c d h f = cc
operands_formed (member e es) c d h f = cc
operands_formed (between e a b) c d h f = cc
operands_formed (matching m e s) c d h f = cc
operands_formed (choice r e) c d h f = cc
operands_formed (cast t e) c d h f = cc
operands_formed (call g es) c d h f = cc
operands_formed (trunc q e) c d h f = cc
operands_formed (extract q e) c d h f = cc
operands_formed (agg_of_rows n) c d h f = cc
operands_formed (agg n e) c d h f = cc

-- an expression of a list
pub ex_formed : (es : List Ex) (k : ℕ) (e : Ex) → slice_get es k ≡ Some e → AreFormed (exs es) → IsFormed e
ex_formed [] k e h f = cc
ex_formed (x ∷ es) zero e h f = subst IsFormed (some_is x e h) f.0
ex_formed (x ∷ es) (suc k) e h f = ex_formed es k e h f.1

pub ex_smaller : (es : List Ex) (k : ℕ) (e : Ex) → slice_get es k ≡ Some e → size e < exs_size (exs es)
ex_smaller [] k e h = cc
ex_smaller (x ∷ es) zero e h = (let w : x ≡ e = some_is x e h in rw w (omega arith))
ex_smaller (x ∷ es) (suc k) e h = omega (arith, ex_smaller es k e h)

-- an arm of CASE
pub arm_formed : (xs : List (Ex × Ex)) (k : ℕ) (x : Ex × Ex) → slice_get xs k ≡ Some x → ArmsAreFormed (arms xs) → IsFormed x.0 × IsFormed x.1
arm_formed [] k x h f = cc
arm_formed (y ∷ xs) zero x h f = subst (λ (z : Ex × Ex). IsFormed z.0 × IsFormed z.1) (some_is y x h) (f.0, f.1)
arm_formed (y ∷ xs) (suc k) x h f = arm_formed xs k x h f.2

pub arm_smaller : (xs : List (Ex × Ex)) (k : ℕ) (x : Ex × Ex) → slice_get xs k ≡ Some x → size x.0 + size x.1 < arms_size (arms xs)
arm_smaller [] k x h = cc
arm_smaller (y ∷ xs) zero x h = (let w : y ≡ x = some_is y x h in rw w (omega arith))
arm_smaller (y ∷ xs) (suc k) x h = omega (arith, arm_smaller xs k x h)

-- the count of a function's operands
pub counted_operands : (f : Func) (es : List Ex) → TakesArguments f (length (items (exs es))) → TakesArguments f (length es)
counted_operands f es h = subst (λ n. TakesArguments f n) (ap length (items_exs es)) h
