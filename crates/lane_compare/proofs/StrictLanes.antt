-- An operator of two operands at one lane, by the tests of the lane.
use Rattle.std.proofs.Common.{◌≡◌, refl, Bool, true, false, cond, not, ◌&&◌, ◌||◌}
use Rattle.std.specs.Prelude.{if◌then◌else◌}
use Rattle.value_meaning.specs.Val.{Val, missing, null, truth}
use Rattle.eval_meaning.specs.Logic.{is_null, is_missing}
use Rattle.eval_meaning.specs.Operands.{of_two}
use Rattle.lane_base.specs.Registers.{under, truth_as, one_as}
use Rattle.lane_compare.specs.Operands.{is_null_of_two}

-- NULL, or the value in a lane that has one, which isn't NULL
abbrev pub strict_as : (is_null has_value : Bool) → Val → Val
strict_as n both v = cond n null (cond both v missing)

strict_true : (p q n both : Bool) (v r : Val) → n ≡ (not p && q) → (p ≡ true → both ≡ false) → (n ≡ false → cond both v missing ≡ r)
    → strict_as n (both && not n) v ≡ (if p then missing else (if q then null else r))
strict_true true q n both v r e f g = rw (e, f refl) refl
strict_true false true n both v r e f g = rw e refl
strict_true false false n true v r e f g = rw e (g e)
strict_true false false n false v r e f g = rw e (g e)

strict_false : (n both : Bool) (v : Val) → n ≡ false → strict_as n (both && false) v ≡ missing
strict_false n true v e = rw e refl
strict_false n false v e = rw e refl

-- In a lane of the mask m the result is NULL by n, else the value v in a lane that has one (both), where v is what the
-- rule gives unless the result is NULL; and a lane with an operand that is MISSING has no value.
pub strict : (rule : Val → Val → Val) (a b : Val) (m n both : Bool) (v : Val) → n ≡ (m && is_null_of_two a b)
    → (m ≡ true → (is_missing a || is_missing b) ≡ true → both ≡ false)
    → (m ≡ true → n ≡ false → cond both v missing ≡ rule a b)
    → strict_as n (both && (m && not n)) v ≡ under m (of_two rule a b)
strict rule a b true n both v e f g = strict_true (is_missing a || is_missing b) (is_null a || is_null b) n both v (rule a b) e (f refl) (g refl)
strict rule a b false n both v e f g = strict_false n both v e

-- as masks of truth values show it
pub truth_as-strict : (n both met : Bool) → truth_as n (both && met) (both && not (both && met)) ≡ strict_as n both (truth met)
truth_as-strict true both met = refl
truth_as-strict false true true = refl
truth_as-strict false true false = refl
truth_as-strict false false met = refl

-- and as a mask of values of one kind
pub one_as-strict : (n both ok : Bool) (v : Val) → one_as n (both && ok) v ≡ strict_as n both (cond ok v missing)
one_as-strict true both ok v = refl
one_as-strict false true ok v = refl
one_as-strict false false ok v = refl
