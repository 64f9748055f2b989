-- What DATE_ADD gives at one lane.
use Rattle.std.proofs.Common.{◌≡◌, ℕ, ℤ, pos, List, refl, ap, ◌∙◌, sym, Bool, true, false, cond, not, ◌&&◌, ◌||◌}
use Rattle.std.specs.Prelude.{if◌then◌else◌, ◌+ℤ◌, ◌*ℤ◌, Some}
use Rattle.value_meaning.specs.Val.{Val, missing, null, int, time}
use Rattle.time_meaning.specs.Moments.{is_time}
use Rattle.block_meaning.specs.Tables.{Table}
use Rattle.block_meaning.specs.CellReading.{cell_value}
use Rattle.eval_meaning.specs.Logic.{is_null, is_missing}
use Rattle.eval_meaning.specs.Operands.{of_two}
use Rattle.eval_meaning.specs.Times.{on_count_and_time, moved, timed}
use Rattle.lane_base.specs.declared.lanes.Lanes.{Lanes}
use Rattle.lane_base.specs.Bits.{has, at_most_one}
use Rattle.lane_base.specs.Shown.{show_as, value_under, is_nested, IsLegal}
use Rattle.lane_base.specs.Registers.{shown, value_at, under, one_as, number_at, span_at}
use Rattle.lane_base.proofs.LaneKinds.{null_lane}

abbrev pub is_int : Val → Bool
is_int (int n) = true
is_int v = false

abbrev pub is_timed : Val → Bool
is_timed (time t) = true
is_timed v = false

-- the rule of a number and a time, where ok tells whether it gives a time
pub of_two_is : (v w : Val) (ok : Bool) (r : ℤ) (rule : ℤ → ℤ → Val) → ((x z : ℤ) → v ≡ int x → w ≡ time z → cond ok (time r) missing ≡ rule x z)
    → one_as ((is_null v && not (is_missing w)) || (not (is_missing v) && is_null w)) ((is_int v && is_timed w) && ok) (time r) ≡ of_two (on_count_and_time rule) v w
of_two_is (int x) (time z) ok r rule h = h x z refl refl
of_two_is (int x) w ok r rule h = refl
of_two_is missing w ok r rule h = refl
of_two_is null missing ok r rule h = refl
of_two_is null w ok r rule h = refl
of_two_is v missing ok r rule h = refl
of_two_is v w ok r rule h = refl

nested_int : (v : Val) → is_nested v ≡ true → is_int v ≡ false
nested_int (int n) h = cc
nested_int v h = refl

nested_timed : (v : Val) → is_nested v ≡ true → is_timed v ≡ false
nested_timed (time n) h = cc
nested_timed v h = refl

int_of : (table : Table) (n y f i t x r : Bool) (z : ℤ) (s : List ℕ) → at_most_one n y f i t x r ≡ true → IsLegal table (show_as n y f i t x r z s) → i ≡ is_int (value_under table (show_as n y f i t x r z s))
int_of table true true f true t x r z s d h = cc
int_of table true false true true t x r z s d h = cc
int_of table true false false true t x r z s d h = cc
int_of table true y f false t x r z s d h = refl
int_of table false true true true t x r z s d h = cc
int_of table false true false true t x r z s d h = cc
int_of table false true f false t x r z s d h = refl
int_of table false false true true t x r z s d h = cc
int_of table false false true false t x r z s d h = refl
int_of table false false false true t x r z s d h = refl
int_of table false false false false true x r z s d h = refl
int_of table false false false false false true r z s d h = refl
int_of table false false false false false false true z s d h = sym (nested_int (cell_value table s) h.nested)
int_of table false false false false false false false z s d h = refl

timed_of : (table : Table) (n y f i t x r : Bool) (z : ℤ) (s : List ℕ) → at_most_one n y f i t x r ≡ true → IsLegal table (show_as n y f i t x r z s) → t ≡ is_timed (value_under table (show_as n y f i t x r z s))
timed_of table true true f i true x r z s d h = cc
timed_of table true false true i true x r z s d h = cc
timed_of table true false false true true x r z s d h = cc
timed_of table true false false false true x r z s d h = cc
timed_of table true y f i false x r z s d h = refl
timed_of table false true true i true x r z s d h = cc
timed_of table false true false true true x r z s d h = cc
timed_of table false true false false true x r z s d h = cc
timed_of table false true f i false x r z s d h = refl
timed_of table false false true true true x r z s d h = cc
timed_of table false false true false true x r z s d h = cc
timed_of table false false true i false x r z s d h = refl
timed_of table false false false true true x r z s d h = cc
timed_of table false false false true false x r z s d h = refl
timed_of table false false false false true x r z s d h = refl
timed_of table false false false false false true r z s d h = refl
timed_of table false false false false false false true z s d h = sym (nested_timed (cell_value table s) h.nested)
timed_of table false false false false false false false z s d h = refl

pub int_lane : (table : Table) (l : Lanes) (i : ℕ) → IsLegal table (shown l i) → has l.int.0 i ≡ is_int (value_at table l i)
int_lane table l i = int_of table (has l.null.0 i) (has l.yes.0 i) (has l.no.0 i) (has l.int.0 i) (has l.time.0 i) (has l.text.0 i) (has l.tree.0 i) (number_at l.nums.lanes i) (span_at l.spans.lanes i) (l.disjoint i)

pub timed_lane : (table : Table) (l : Lanes) (i : ℕ) → IsLegal table (shown l i) → has l.time.0 i ≡ is_timed (value_at table l i)
timed_lane table l i = timed_of table (has l.null.0 i) (has l.yes.0 i) (has l.no.0 i) (has l.int.0 i) (has l.time.0 i) (has l.text.0 i) (has l.tree.0 i) (number_at l.nums.lanes i) (span_at l.spans.lanes i) (l.disjoint i)

nested_is : (v w : Val) → v ≡ w → is_nested v ≡ true → is_nested w ≡ true
nested_is v w e h = sym (ap is_nested e) ∙ h

number_is : (table : Table) (n y f i t x r : Bool) (z : ℤ) (s : List ℕ) (a : ℤ) → IsLegal table (show_as n y f i t x r z s) → value_under table (show_as n y f i t x r z s) ≡ int a → z ≡ a
number_is table true y f i t x r z s a h e = cc
number_is table false true f i t x r z s a h e = cc
number_is table false false true i t x r z s a h e = cc
number_is table false false false true t x r z s a h e = cc
number_is table false false false false true x r z s a h e = cc
number_is table false false false false false true r z s a h e = cc
number_is table false false false false false false true z s a h e = (let w = nested_is (cell_value table s) (int a) e h.nested in cc)
number_is table false false false false false false false z s a h e = cc

time_is : (table : Table) (n y f i t x r : Bool) (z : ℤ) (s : List ℕ) (a : ℤ) → IsLegal table (show_as n y f i t x r z s) → value_under table (show_as n y f i t x r z s) ≡ time a → z ≡ a
time_is table true y f i t x r z s a h e = cc
time_is table false true f i t x r z s a h e = cc
time_is table false false true i t x r z s a h e = cc
time_is table false false false true t x r z s a h e = cc
time_is table false false false false true x r z s a h e = cc
time_is table false false false false false true r z s a h e = cc
time_is table false false false false false false true z s a h e = (let w = nested_is (cell_value table s) (time a) e h.nested in cc)
time_is table false false false false false false false z s a h e = cc

-- the number of a lane that shows one
pub int_at : (table : Table) (l : Lanes) (i : ℕ) (a : ℤ) → IsLegal table (shown l i) → value_at table l i ≡ int a → number_at l.nums.lanes i ≡ a
int_at table l i a = number_is table (has l.null.0 i) (has l.yes.0 i) (has l.no.0 i) (has l.int.0 i) (has l.time.0 i) (has l.text.0 i) (has l.tree.0 i) (number_at l.nums.lanes i) (span_at l.spans.lanes i) a

pub time_at : (table : Table) (l : Lanes) (i : ℕ) (a : ℤ) → IsLegal table (shown l i) → value_at table l i ≡ time a → number_at l.nums.lanes i ≡ a
time_at table l i a = time_is table (has l.null.0 i) (has l.yes.0 i) (has l.no.0 i) (has l.int.0 i) (has l.time.0 i) (has l.text.0 i) (has l.tree.0 i) (number_at l.nums.lanes i) (span_at l.spans.lanes i) a

-- a sum, shown where the calendar's range has it
kept : (ok : Bool) (r sum : ℤ) → ok ≡ is_time sum → (ok ≡ true → r ≡ sum) → cond ok (time r) missing ≡ timed sum
kept true r sum e h = ap time (h refl) ∙ ap (λ b. if b then time sum else missing) e
kept false r sum e h = ap (λ b. if b then time sum else missing) e

ap2 : {A B C : Type 0} (f : A → B → C) {a b : A} {c d : B} → a ≡ b → c ≡ d → f a c ≡ f b d
ap2 f {b = b} {c = c} p q = ap (λ x. f x c) p ∙ ap (λ y. f b y) q

-- the masks of NULL and of times, and the value, at one lane
pub shift_lane : (table : Table) (n a : Lanes) (i length : ℕ) (m here_n here_a ok : Bool) (r : ℤ) → (m ≡ true → IsLegal table (shown n i)) → (m ≡ true → IsLegal table (shown a i))
    → (m ≡ true → here_n ≡ not (is_missing (value_at table n i))) → (m ≡ true → here_a ≡ not (is_missing (value_at table a i)))
    → ok ≡ is_time (number_at a.nums.lanes i +ℤ number_at n.nums.lanes i *ℤ pos length)
    → (ok ≡ true → r ≡ number_at a.nums.lanes i +ℤ number_at n.nums.lanes i *ℤ pos length)
    → one_as (m && ((has n.null.0 i && here_a) || (here_n && has a.null.0 i))) (m && ((has n.int.0 i && has a.time.0 i) && ok)) (time r)
    ≡ under m (of_two (on_count_and_time (moved (Some length))) (value_at table n i) (value_at table a i))
shift_lane table n a i length true here_n here_a ok r p q s t e h =
    let v = value_at table n i in
    let w = value_at table a i in
    let nulls = ap2 (λ x y. x && y) (null_lane table n i (p refl)) (t refl) in
    let nulls' = ap2 (λ x y. x && y) (s refl) (null_lane table a i (q refl)) in
    let times = ap2 (λ x y. x && y) (int_lane table n i (p refl)) (timed_lane table a i (q refl)) in
    ap2 (λ x y. one_as (x || y) ((has n.int.0 i && has a.time.0 i) && ok) (time r)) nulls nulls'
    ∙ ap (λ x. one_as ((is_null v && not (is_missing w)) || (not (is_missing v) && is_null w)) (x && ok) (time r)) times
    ∙ of_two_is v w ok r (moved (Some length))
    (λ x z f g. kept ok r (number_at a.nums.lanes i +ℤ number_at n.nums.lanes i *ℤ pos length) e h
    ∙ ap2 (λ b c. timed (b +ℤ c *ℤ pos length)) (time_at table a i z (q refl) g) (int_at table n i x (p refl) f))
shift_lane table n a i length false here_n here_a ok r p q s t e h = refl

int_apart : (n y f i t x r : Bool) → at_most_one n y f i t x r ≡ true → n ≡ true → i ≡ true → ⊥
int_apart true true f true t x r d e g = cc
int_apart true false true true t x r d e g = cc
int_apart true false false true t x r d e g = cc
int_apart true y f false t x r d e g = cc
int_apart false y f i t x r d e g = cc

time_apart : (n y f i t x r : Bool) → at_most_one n y f i t x r ≡ true → n ≡ true → t ≡ true → ⊥
time_apart true true f i true x r d e g = cc
time_apart true false true i true x r d e g = cc
time_apart true false false true true x r d e g = cc
time_apart true false false false true x r d e g = cc
time_apart true y f i false x r d e g = cc
time_apart false y f i t x r d e g = cc

both : (m nn ni here_n an at here_a ok : Bool) → (nn ≡ true → ni ≡ true → ⊥) → (an ≡ true → at ≡ true → ⊥)
    → ((m && ((nn && here_a) || (here_n && an))) && (m && ((ni && at) && ok))) ≡ false
both false nn ni here_n an at here_a ok p q = refl
both true true true here_n an at here_a ok p q = absurd (p refl refl)
both true true false here_n an at true ok p q = refl
both true true false true true at false ok p q = refl
both true true false true false at false ok p q = refl
both true true false false an at false ok p q = refl
both true false ni false an at here_a ok p q = refl
both true false ni true false at here_a ok p q = refl
both true false ni true true true here_a ok p q = absurd (q refl refl)
both true false true true true false here_a ok p q = refl
both true false false true true false here_a ok p q = refl

-- a lane isn't both NULL and moved
pub null_or_moved : (n a : Lanes) (i : ℕ) (m here_n here_a ok : Bool)
    → ((m && ((has n.null.0 i && here_a) || (here_n && has a.null.0 i))) && (m && ((has n.int.0 i && has a.time.0 i) && ok))) ≡ false
null_or_moved n a i m here_n here_a ok =
    both m (has n.null.0 i) (has n.int.0 i) here_n (has a.null.0 i) (has a.time.0 i) here_a ok
    (int_apart (has n.null.0 i) (has n.yes.0 i) (has n.no.0 i) (has n.int.0 i) (has n.time.0 i) (has n.text.0 i) (has n.tree.0 i) (n.disjoint i))
    (time_apart (has a.null.0 i) (has a.yes.0 i) (has a.no.0 i) (has a.int.0 i) (has a.time.0 i) (has a.text.0 i) (has a.tree.0 i) (a.disjoint i))
