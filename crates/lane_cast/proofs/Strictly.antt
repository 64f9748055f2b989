-- Arithmetic at one lane.
use Rattle.std.proofs.Common.{◌≡◌, ℕ, ℤ, List, refl, ap, ◌∙◌, Bool, true, false, cond, not, ◌&&◌, ◌||◌}
use Rattle.value_meaning.specs.Val.{Val, missing, null, int}
use Rattle.eval_meaning.specs.Logic.{is_missing}
use Rattle.eval_meaning.specs.Operands.{on_number, on_numbers, of_one, of_two}
use Rattle.block_meaning.specs.Tables.{Table}
use Rattle.lane_base.specs.declared.lanes.Lanes.{Lanes}
use Rattle.lane_base.specs.Bits.{has}
use Rattle.lane_base.specs.Shown.{IsLegal}
use Rattle.lane_base.specs.Registers.{shown, value_at, number_at, under, one_as}
use Rattle.lane_compare.specs.Operands.{is_null_of_two}
use Rattle.lane_compare.proofs.StrictLanes.{strict, one_as-strict}
use Rattle.lane_compare.proofs.Reading.{reads, Reads, gone, unknown, holds, fails, number, moment, string, items, fields}
use Rattle.lane_cast.specs.Made.{number_if}

both_numbers : (rule : ℤ → ℤ → Val) {v w : Val} {an ay af ai at ax ar bn by bf bi bt bx br : Bool} {x y : ℤ} {s t : List ℕ}
    → Reads v an ay af ai at ax ar x s → Reads w bn by bf bi bt bx br y t → cond (ai && bi) (rule x y) missing ≡ on_numbers rule v w
both_numbers rule number number = refl
both_numbers rule a b = refl

none_missing : {v w : Val} {an ay af ai at ax ar bn by bf bi bt bx br : Bool} {x y : ℤ} {s t : List ℕ}
    → Reads v an ay af ai at ax ar x s → Reads w bn by bf bi bt bx br y t → (is_missing v || is_missing w) ≡ true → (ai && bi) ≡ false
none_missing number gone h = refl
none_missing number b h = cc
none_missing a b h = refl

-- one number, which a negative is made of
one_number : (rule : ℤ → Val) {v : Val} {an ay af ai at ax ar : Bool} {x : ℤ} {s : List ℕ}
    → Reads v an ay af ai at ax ar x s → cond an null (cond ai (rule x) missing) ≡ of_one (on_number rule) v
one_number rule gone = refl
one_number rule unknown = refl
one_number rule holds = refl
one_number rule fails = refl
one_number rule number = refl
one_number rule moment = refl
one_number rule string = refl
one_number rule (items vs) = refl
one_number rule (fields fs) = refl

when_both : (b : Bool) (v w : Val) → (b ≡ true → v ≡ w) → cond b v missing ≡ cond b w missing
when_both true v w h = h refl
when_both false v w h = refl

all_hold : (b m n : Bool) → b ≡ true → m ≡ true → n ≡ false → (b && (m && not n)) ≡ true
all_hold b m n e f g = rw (e, f, g) refl

one_as-one : (n b ok : Bool) (v : Val) → one_as n (((b && not n) && true) && ok) v ≡ cond n null (cond b (cond ok v missing) missing)
one_as-one true b ok v = refl
one_as-one false true ok v = refl
one_as-one false false ok v = refl

one_as-none : (b ok : Bool) (v : Val) → one_as false ((b && false) && ok) v ≡ missing
one_as-none true ok v = refl
one_as-none false ok v = refl

module _ (table : Table) (a : Lanes) (i : ℕ) where
  -- the result of an operator of one number in a lane
  pub one_value : (rule : ℤ → Val) (m ok : Bool) (z : ℤ) → (m ≡ true → IsLegal table (shown a i))
      → number_if ok z ≡ rule (number_at a.nums.lanes i)
      → one_as (m && has a.null.0 i) (((has a.int.0 i && not (has a.null.0 i)) && m) && ok) (int z) ≡ under m (of_one (on_number rule) (value_at table a i))
  one_value rule true ok z p e =
      one_as-one (has a.null.0 i) (has a.int.0 i) ok (int z)
      ∙ ap (λ v. cond (has a.null.0 i) null (cond (has a.int.0 i) v missing)) e
      ∙ one_number rule (reads table a i (p refl))
  one_value rule false ok z p e = one_as-none (has a.int.0 i && not (has a.null.0 i)) ok (int z)

  -- and of two
  pub two_value : (b : Lanes) (rule : ℤ → ℤ → Val) (m n ok : Bool) (z : ℤ) → (m ≡ true → IsLegal table (shown a i)) → (m ≡ true → IsLegal table (shown b i))
      → n ≡ (m && is_null_of_two (value_at table a i) (value_at table b i))
      → (((has a.int.0 i && has b.int.0 i) && (m && not n)) ≡ true → number_if ok z ≡ rule (number_at a.nums.lanes i) (number_at b.nums.lanes i))
      → one_as n (((has a.int.0 i && has b.int.0 i) && (m && not n)) && ok) (int z) ≡ under m (of_two (on_numbers rule) (value_at table a i) (value_at table b i))
  two_value b rule m n ok z p q e g =
      one_as-strict n ((has a.int.0 i && has b.int.0 i) && (m && not n)) ok (int z)
      ∙ strict (on_numbers rule) (value_at table a i) (value_at table b i) m n (has a.int.0 i && has b.int.0 i) (number_if ok z) e
      (λ t. none_missing (reads table a i (p t)) (reads table b i (q t)))
      (λ t k. when_both (has a.int.0 i && has b.int.0 i) _ _ (λ h. g (all_hold _ m n h t k)) ∙ both_numbers rule (reads table a i (p t)) (reads table b i (q t)))
