-- The conjuncts of an AND and of any other expression, and the bounds that they leave.
use Rattle.std.proofs.Common.{◌≡◌, ◌≢◌, ℕ, ◌<◌, List, [], ◌∷◌, ◌++◌, Option, Some, None, Bool, false, true≢false, refl, sym, ap, ◌∙◌, arith}
use Rattle.std.specs.Prelude.{◌==◌, length}
use Rattle.tree_meaning.specs.declared.BinOp.TheVariants as op
use Rattle.tree_meaning.specs.Tree.{Ex, bin, size}
use Rattle.range_meaning.specs.declared.Bounds.{Bounds}
use Rattle.range_meaning.specs.declared.Bounds.TheVariants.{All}
use Rattle.range_meaning.specs.Intervals.{meet}
use Rattle.range_meaning.specs.Binding.{conjuncts, bounds_of, bounds_of_all, bounds}
use Rattle.block_meaning.proofs.Answered.{some_is}
use Rattle.range_meaning.proofs.MeetLaws.{meet_all, meet_assoc, of_both}
use Rattle.time_index.specs.Ands.{and_operands}

-- the two operands
abbrev pub Both : Option (Ex × Ex) → Ex → Ex → Type 0
Both o a b = let both : Option (Ex × Ex) = Some (a, b) in o ≡ both

-- what an AND is made of
pub record IsAnd (e a b : Ex) : Type 0 where
  pub conjuncts_are : conjuncts e ≡ conjuncts a ++ conjuncts b
  pub left_smaller : size a < size e
  pub right_smaller : size b < size e

pub and_is : (e a b : Ex) → Both (and_operands e) a b → IsAnd e a b
and_is (bin op.And x y) a b h =
    let made : Ex × Ex = (x, y) in
    let given : Ex × Ex = (a, b) in
    let same : made ≡ given = some_is made given h in
    let left : x ≡ a = ap (λ (p : Ex × Ex). p.0) same in
    let right : y ≡ b = ap (λ (p : Ex × Ex). p.1) same in
    record {
      conjuncts_are = ap (λ (z : Ex). conjuncts z ++ conjuncts y) left ∙ ap (λ (z : Ex). conjuncts a ++ conjuncts z) right;
      left_smaller = rw (sym left) (omega arith);
      right_smaller = rw (sym right) (omega arith);
    }
and_is e a b h = cc

pub and_none : (e : Ex) → and_operands e ≡ None → conjuncts e ≡ e ∷ []
and_none (bin op.And x y) h = cc
and_none e h = refl

-- the bounds of the left operand are met with those of the right
pub and_bounds : (field : List ℕ) (e a b : Ex) (others : Bounds) → conjuncts e ≡ conjuncts a ++ conjuncts b → meet (bounds_of_all field (conjuncts a)) (meet (bounds_of_all field (conjuncts b)) others) ≡ meet (bounds_of_all field (conjuncts e)) others
and_bounds field e a b others is =
    sym (meet_assoc (bounds_of_all field (conjuncts a)) (bounds_of_all field (conjuncts b)) others)
    ∙ ap (λ (x : Bounds). meet x others) (sym (of_both (bounds_of field) (conjuncts a) (conjuncts b)) ∙ ap (bounds_of_all field) (sym is))

pub last_bounds : (field : List ℕ) (e : Ex) → and_operands e ≡ None → bounds_of field e ≡ bounds_of_all field (conjuncts e)
last_bounds field e h = sym (ap (bounds_of_all field) (and_none e h))

-- a name that is tested not to be empty
pub not_empty : (name : List ℕ) (test : Bool) → test ≡ (length name == 0) → test ≡ false → name ≢ []
not_empty name test is fails e = true≢false (sym (ap (λ (n : List ℕ). length n == 0) e) ∙ sym is ∙ fails)

-- the bounds of a field that is indexed
pub named_bounds : (field : List ℕ) (e : Ex) (b : Bounds) → field ≢ [] → b ≡ meet (bounds_of_all field (conjuncts e)) All → b ≡ bounds field e
named_bounds [] e b named is = absurd (named refl)
named_bounds (c ∷ cs) e b named is = is ∙ meet_all (bounds_of_all (c ∷ cs) (conjuncts e))
