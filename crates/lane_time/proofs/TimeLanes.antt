-- What an operator on times gives at one lane.
use Rattle.std.proofs.Common.{◌≡◌, ℕ, ℤ, List, arith, refl, ap, ◌∙◌, sym, Bool, true, false, ◌&&◌}
use Rattle.std.specs.Prelude.{if◌then◌else◌}
use Rattle.std.proofs.lemmas.Int.{ints}
use Rattle.value_meaning.specs.Val.{Val, missing, null, time}
use Rattle.time_meaning.specs.Moments.{IsTime, is_time}
use Rattle.block_meaning.specs.Tables.{Table}
use Rattle.block_meaning.specs.CellReading.{cell_value}
use Rattle.eval_meaning.specs.Operands.{of_one, on_time, on_date}
use Rattle.lane_base.specs.declared.lanes.Lanes.{Lanes}
use Rattle.lane_base.specs.Bits.{has, at_most_one}
use Rattle.lane_base.specs.Shown.{show_as, value_under, is_nested, IsLegal}
use Rattle.lane_base.specs.Registers.{shown, value_at, under, one_as, number_at, span_at}

nested_rule : (rule : ℤ → Val) (v : Val) → is_nested v ≡ true → of_one (on_time rule) v ≡ missing
nested_rule rule null h = cc
nested_rule rule (time t) h = cc
nested_rule rule v h = refl

value_time : (table : Table) (n y f i t x r : Bool) (z : ℤ) (s : List ℕ) (rule : ℤ → Val) (v : Val) → at_most_one n y f i t x r ≡ true
    → IsLegal table (show_as n y f i t x r z s) → (IsTime z → v ≡ rule z)
    → one_as n t v ≡ of_one (on_time rule) (value_under table (show_as n y f i t x r z s))
value_time table true y f i t x r z s rule v d h e = refl
value_time table false true true i t x r z s rule v d h e = cc
value_time table false true false true t x r z s rule v d h e = cc
value_time table false true false false true x r z s rule v d h e = cc
value_time table false true false false false x r z s rule v d h e = refl
value_time table false false true true t x r z s rule v d h e = cc
value_time table false false true false true x r z s rule v d h e = cc
value_time table false false true false false x r z s rule v d h e = refl
value_time table false false false true true x r z s rule v d h e = cc
value_time table false false false true false x r z s rule v d h e = refl
value_time table false false false false true x r z s rule v d h e = e h
value_time table false false false false false true r z s rule v d h e = refl
value_time table false false false false false false true z s rule v d h e = sym (nested_rule rule (cell_value table s) h.nested)
value_time table false false false false false false false z s rule v d h e = refl

-- an operator on times alone
pub time_lane : (table : Table) (l : Lanes) (i : ℕ) (m : Bool) (rule : ℤ → Val) (v : Val) → (m ≡ true → IsLegal table (shown l i))
    → (IsTime (number_at l.nums.lanes i) → v ≡ rule (number_at l.nums.lanes i))
    → one_as (m && has l.null.0 i) (m && has l.time.0 i) v ≡ under m (of_one (on_time rule) (value_at table l i))
time_lane table l i true rule v h e =
    value_time table (has l.null.0 i) (has l.yes.0 i) (has l.no.0 i) (has l.int.0 i) (has l.time.0 i) (has l.text.0 i) (has l.tree.0 i)
    (number_at l.nums.lanes i) (span_at l.spans.lanes i) rule v (l.disjoint i) (h refl) e
time_lane table l i false rule v h e = refl

pub is_time-true : (t : ℤ) → IsTime t → is_time t ≡ true
is_time-true t h = grind (arith, ints)

-- an operator on times of the calendar's range
pub date_lane : (table : Table) (l : Lanes) (i : ℕ) (m : Bool) (rule : ℤ → Val) (v : Val) → (m ≡ true → IsLegal table (shown l i))
    → (IsTime (number_at l.nums.lanes i) → v ≡ rule (number_at l.nums.lanes i))
    → one_as (m && has l.null.0 i) (m && has l.time.0 i) v ≡ under m (of_one (on_date rule) (value_at table l i))
date_lane table l i m rule v h e =
    time_lane table l i m (λ t. if is_time t then rule t else missing) v h
    (λ k. e k ∙ sym (ap (λ b. if b then rule (number_at l.nums.lanes i) else missing) (is_time-true (number_at l.nums.lanes i) k)))

apart : (n y f i t x r : Bool) → at_most_one n y f i t x r ≡ true → (n && t) ≡ false
apart false y f i t x r d = refl
apart true true f i t x r d = cc
apart true false true i t x r d = cc
apart true false false true t x r d = cc
apart true false false false true x r d = cc
apart true false false false false x r d = refl

-- a lane isn't both NULL and a time
pub null_or_time : (l : Lanes) (i : ℕ) (m : Bool) → ((m && has l.null.0 i) && (m && has l.time.0 i)) ≡ false
null_or_time l i true = apart (has l.null.0 i) (has l.yes.0 i) (has l.no.0 i) (has l.int.0 i) (has l.time.0 i) (has l.text.0 i) (has l.tree.0 i) (l.disjoint i)
null_or_time l i false = refl

legal_time : (table : Table) (n y f i t x r : Bool) (z : ℤ) (s : List ℕ) → at_most_one n y f i t x r ≡ true → t ≡ true → IsLegal table (show_as n y f i t x r z s) → IsTime z
legal_time table n y f i false x r z s d e h = cc
legal_time table true true f i true x r z s d e h = cc
legal_time table true false true i true x r z s d e h = cc
legal_time table true false false true true x r z s d e h = cc
legal_time table true false false false true x r z s d e h = cc
legal_time table false true true i true x r z s d e h = cc
legal_time table false true false true true x r z s d e h = cc
legal_time table false true false false true x r z s d e h = cc
legal_time table false false true true true x r z s d e h = cc
legal_time table false false true false true x r z s d e h = cc
legal_time table false false false true true x r z s d e h = cc
legal_time table false false false false true x r z s d e h = h

-- a legal lane that is a time has one of the calendar's range
pub time_in_range : (table : Table) (l : Lanes) (i : ℕ) → has l.time.0 i ≡ true → IsLegal table (shown l i) → IsTime (number_at l.nums.lanes i)
time_in_range table l i =
    legal_time table (has l.null.0 i) (has l.yes.0 i) (has l.no.0 i) (has l.int.0 i) (has l.time.0 i) (has l.text.0 i) (has l.tree.0 i)
    (number_at l.nums.lanes i) (span_at l.spans.lanes i) (l.disjoint i)

pub both_hold : (a b : Bool) → (a && b) ≡ true → (a ≡ true) × (b ≡ true)
both_hold true b h = (refl, h)
both_hold false b h = cc

pub is_time-holds : (t : ℤ) → is_time t ≡ true → IsTime t
is_time-holds t h = grind (arith, ints)
