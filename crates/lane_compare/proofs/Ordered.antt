-- A comparison at one lane.
use Rattle.std.proofs.Common.{◌≡◌, ℕ, ℤ, List, refl, ap, ◌∙◌, Bool, true, false, cond, not, ◌&&◌, ◌||◌, None}
use Rattle.std.specs.Ordering.{bool_cmp, int_cmp, nat_cmp}
use Rattle.std.specs.Cmp.Lexicographic.{slice_cmp}
use Rattle.tree_meaning.specs.declared.BinOp.{BinOp}
use Rattle.value_meaning.specs.Val.{Val, missing, truth, int, time, text}
use Rattle.eval_meaning.specs.Logic.{is_missing}
use Rattle.eval_meaning.specs.Comparisons.{order_of, meets, compared, compare}
use Rattle.block_meaning.specs.Tables.{Table}
use Rattle.lane_base.specs.declared.lanes.Lanes.{Lanes}
use Rattle.lane_base.specs.Bits.{has}
use Rattle.lane_base.specs.Shown.{IsLegal}
use Rattle.lane_base.specs.Registers.{under, truth_as, shown, value_at, number_at, span_at}
use Rattle.lane_compare.specs.Operands.{is_null_of_two}
use Rattle.lane_compare.proofs.StrictLanes.{strict, truth_as-strict}
use Rattle.lane_compare.proofs.Reading.{reads, Reads, holds, fails, number, moment, string}

or_false : (b : Bool) → (b || false) ≡ b
or_false true = refl
or_false false = refl

abbrev pub truths_bit : (ay af by bf : Bool) → Bool
truths_bit ay af by bf = (ay || af) && (by || bf)

abbrev pub numbers_bit : (ai at bi bt : Bool) → Bool
numbers_bit ai at bi bt = (ai && bi) || (at && bt)

abbrev pub met_bit : (op : BinOp) (ay af ai at ax by bf bi bt bx : Bool) (x y : ℤ) (s t : List ℕ) → Bool
met_bit op ay af ai at ax by bf bi bt bx x y s t =
    ((truths_bit ay af by bf && meets op (bool_cmp ay by)) || (numbers_bit ai at bi bt && meets op (int_cmp x y)))
    || ((ax && bx) && meets op (slice_cmp nat_cmp s t))

abbrev pub both_bit : (ay af ai at ax by bf bi bt bx : Bool) → Bool
both_bit ay af ai at ax by bf bi bt bx = (truths_bit ay af by bf || numbers_bit ai at bi bt) || (ax && bx)

-- by the order of the two, if they can be compared
pub compared_lane : (op : BinOp) {v w : Val} {an ay af ai at ax ar bn by bf bi bt bx br : Bool} {x y : ℤ} {s t : List ℕ}
    → Reads v an ay af ai at ax ar x s → Reads w bn by bf bi bt bx br y t
    → cond (both_bit ay af ai at ax by bf bi bt bx) (truth (met_bit op ay af ai at ax by bf bi bt bx x y s t)) missing ≡ compared op (order_of v w)
compared_lane op holds holds = simp or_false
compared_lane op holds fails = simp or_false
compared_lane op fails holds = simp or_false
compared_lane op fails fails = simp or_false
compared_lane op number number = simp or_false
compared_lane op moment moment = simp or_false
compared_lane op string string = refl
compared_lane op a b = refl

-- nothing is compared with MISSING
order_missing : (v w : Val) → (is_missing v || is_missing w) ≡ true → order_of v w ≡ None
order_missing (truth a) missing h = refl
order_missing (int a) missing h = refl
order_missing (time a) missing h = refl
order_missing (text a) missing h = refl
order_missing (truth a) w h = cc
order_missing (int a) w h = cc
order_missing (time a) w h = cc
order_missing (text a) w h = cc
order_missing v w h = refl

both_false : (op : BinOp) (both met : Bool) (v w : Val) → cond both (truth met) missing ≡ compared op (order_of v w) → (is_missing v || is_missing w) ≡ true → both ≡ false
both_false op false met v w e h = refl
both_false op true met v w e h = let n = e ∙ ap (compared op) (order_missing v w h) in cc

module _ (op : BinOp) (table : Table) (a b : Lanes) (i : ℕ) where
  abbrev v : Val
  v = value_at table a i

  abbrev w : Val
  w = value_at table b i

  abbrev both : Bool
  both = both_bit (has a.yes.0 i) (has a.no.0 i) (has a.int.0 i) (has a.time.0 i) (has a.text.0 i) (has b.yes.0 i) (has b.no.0 i) (has b.int.0 i) (has b.time.0 i) (has b.text.0 i)

  abbrev met : (tm nm xm : Bool) → Bool
  met tm nm xm =
      ((truths_bit (has a.yes.0 i) (has a.no.0 i) (has b.yes.0 i) (has b.no.0 i) && tm)
      || (numbers_bit (has a.int.0 i) (has a.time.0 i) (has b.int.0 i) (has b.time.0 i) && nm)) || xm

  -- the result in a lane, of what the kinds' own comparisons gave
  pub compare_value : (m n tm nm xm : Bool) → (m ≡ true → IsLegal table (shown a i)) → (m ≡ true → IsLegal table (shown b i))
      → n ≡ (m && is_null_of_two v w)
      → tm ≡ meets op (bool_cmp (has a.yes.0 i) (has b.yes.0 i))
      → nm ≡ meets op (int_cmp (number_at a.nums.lanes i) (number_at b.nums.lanes i))
      → xm ≡ (((m && not n) && (has a.text.0 i && has b.text.0 i)) && meets op (slice_cmp nat_cmp (span_at a.spans.lanes i) (span_at b.spans.lanes i)))
      → truth_as n ((both && (m && not n)) && met tm nm xm) ((both && (m && not n)) && not ((both && (m && not n)) && met tm nm xm)) ≡ under m (compare op v w)
  compare_value m n tm nm xm p q e f g h =
      let lane : (m ≡ true) → cond both (truth (met (meets op (bool_cmp (has a.yes.0 i) (has b.yes.0 i))) (meets op (int_cmp (number_at a.nums.lanes i) (number_at b.nums.lanes i))) ((has a.text.0 i && has b.text.0 i) && meets op (slice_cmp nat_cmp (span_at a.spans.lanes i) (span_at b.spans.lanes i))))) missing ≡ compared op (order_of v w) =
      λ t. compared_lane op (reads table a i (p t)) (reads table b i (q t)) in
      truth_as-strict n (both && (m && not n)) (met tm nm xm)
      ∙ strict (λ c d. compared op (order_of c d)) v w m n both (truth (met tm nm xm)) e
      (λ t. both_false op both _ v w (lane t))
      (λ t k. rw (f, g, h, t, k) (lane t))
