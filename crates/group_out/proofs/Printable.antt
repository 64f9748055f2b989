-- Operators make values that a line can show of values that a line can show.
use Rattle.std.proofs.Common.{◌≡◌, ℕ, zero, suc, ℤ, pos, Bool, true, false, cond, List, [], ◌∷◌, Option, Some, None, refl}
use Rattle.std.specs.Prelude.{slice_get, unwrap_or, nat_eq, ◌+ℤ◌, ◌-ℤ◌, ◌*ℤ◌, neg_ℤ, int_div, int_rem, unsigned_abs, ◌==◌}
use Rattle.std.specs.Cmp.Lexicographic.{pointwise}
use Rattle.std.specs.declared.cmp.Ordering.{Ordering}
use Rattle.time_meaning.specs.Moments.{is_time}
use Rattle.lane_time.proofs.StartRange.{start_in_range}
use Rattle.lane_time.proofs.TimeLanes.{is_time-true, is_time-holds}
use Rattle.value_meaning.specs.Val.{Val, Vals, Fields, missing, null, truth, int, time, text, list, struct, no_vals, val, no_fields, field, items, pairs}
use Rattle.value_meaning.specs.Pairs.{value_of}
use Rattle.tree_meaning.specs.Tree.{Step, name, at}
use Rattle.tree_meaning.specs.Decimals.{decimal_on}
use Rattle.tree_meaning.specs.declared.BinOp.{BinOp}
use Rattle.tree_meaning.specs.declared.BinOp.TheVariants as op
use Rattle.tree_meaning.specs.declared.IsWhat.{IsWhat}
use Rattle.tree_meaning.specs.declared.IsWhat.TheVariants as what
use Rattle.tree_meaning.specs.declared.How.{How}
use Rattle.tree_meaning.specs.declared.CastTo.{CastTo}
use Rattle.tree_meaning.specs.declared.CastTo.TheVariants as to
use Rattle.tree_meaning.specs.declared.Func.{Func}
use Rattle.tree_meaning.specs.declared.Func.TheVariants as func
use Rattle.tree_meaning.specs.declared.Part.{Part}
use Rattle.block_meaning.specs.Stored.{HasTimesInRange, HaveTimesInRange, PairsHaveTimesInRange}
use Rattle.json_out.specs.NoMissing.{HasNoMissing, HaveNoMissing, PairsHaveNoMissing}
use Rattle.eval_meaning.specs.Logic.{Logic, holds, fails, unknown, other, of_logic, is_missing, is_null, is_true, is_of, first_of, coalesce, choice_of}
use Rattle.eval_meaning.specs.Operands.{of_one, of_two, on_number, on_numbers, on_text, on_time, on_date}
use Rattle.eval_meaning.specs.Comparisons.{compared, compare, order_of, member_of, between_of, null_if}
use Rattle.eval_meaning.specs.Numbers.{fits, fitted, unless_by_zero, computed, arithmetic, negative}
use Rattle.eval_meaning.specs.Casts.{are_digits, unsigned_number, negative_number, spelled_number, spelled_truth, to_integer, to_boolean, cast_of}
use Rattle.eval_meaning.specs.Matching.{matching_of, char_length}
use Rattle.eval_meaning.specs.Times.{timed, trunc, trunc_of, extract, extract_of, counted, moved, on_count_and_time, length_of, shift_of, unix_epoch, unix_micro}
use Rattle.eval_meaning.specs.Paths.{step_of, path_of}
use Rattle.eval_meaning.specs.Evaluation.{binary, with_one, with_two, call_of}
use Rattle.group_out.specs.Summaries.{IsPrintable}
use Rattle.group_out.proofs.Each.{Each}

no_value : IsPrintable missing
no_value = record { times = tt; missing = tt }

is_null_value : IsPrintable null
is_null_value = record { times = tt; missing = tt }

a_truth : (b : Bool) → IsPrintable (truth b)
a_truth b = record { times = tt; missing = tt }

a_number : (n : ℤ) → IsPrintable (int n)
a_number n = record { times = tt; missing = tt }

a_time : (t : ℤ) → is_time t ≡ true → IsPrintable (time t)
a_time t h = record { times = h; missing = tt }

-- one of two values, by a test
either : (b : Bool) (v w : Val) → IsPrintable v → IsPrintable w → IsPrintable (cond b v w)
either true v w h k = h
either false v w h k = k

by_one : (rule : Val → Val) (a : Val) → IsPrintable (rule a) → IsPrintable (of_one rule a)
by_one rule a h = either (is_missing a) missing _ no_value (either (is_null a) null (rule a) is_null_value h)

by_two : (rule : Val → Val → Val) (a b : Val) → IsPrintable (rule a b) → IsPrintable (of_two rule a b)
by_two rule a b h = either _ missing _ no_value (either _ null (rule a b) is_null_value h)

by_number : (rule : ℤ → Val) → ((n : ℤ) → IsPrintable (rule n)) → (v : Val) → IsPrintable (on_number rule v)
by_number rule h (int n) = h n
by_number rule h v = no_value

by_numbers : (rule : ℤ → ℤ → Val) → ((m n : ℤ) → IsPrintable (rule m n)) → (v w : Val) → IsPrintable (on_numbers rule v w)
by_numbers rule h (int m) (int n) = h m n
by_numbers rule h v w = no_value

by_text : (rule : List ℕ → Val) → ((s : List ℕ) → IsPrintable (rule s)) → (v : Val) → IsPrintable (on_text rule v)
by_text rule h (text s) = h s
by_text rule h v = no_value

by_time : (rule : ℤ → Val) → ((t : ℤ) → IsPrintable (rule t)) → (v : Val) → IsPrintable (on_time rule v)
by_time rule h (time t) = h t
by_time rule h v = no_value

by_date : (rule : ℤ → Val) → ((t : ℤ) → is_time t ≡ true → IsPrintable (rule t)) → (v : Val) → IsPrintable (on_date rule v)
by_date rule h v = by_time (λ t. cond (is_time t) (rule t) missing) (λ t. go t (is_time t) refl) v
  where
    go : (t : ℤ) (b : Bool) → is_time t ≡ b → IsPrintable (cond b (rule t) missing)
    go t true k = h t k
    go t false k = no_value

of_logics : (l : Logic) → IsPrintable (of_logic l)
of_logics holds = a_truth true
of_logics fails = a_truth false
of_logics unknown = is_null_value
of_logics other = no_value

fitted_number : (z : ℤ) → IsPrintable (fitted z)
fitted_number z = either (fits z) (int z) missing (a_number z) no_value

by_zero : (y : ℤ) (v : Val) → IsPrintable v → IsPrintable (unless_by_zero y v)
by_zero y v h = either (unsigned_abs y == 0) missing v no_value h

computed_number : (o : BinOp) (x y : ℤ) → IsPrintable (computed o x y)
computed_number op.Add x y = fitted_number (x +ℤ y)
computed_number op.Sub x y = fitted_number (x -ℤ y)
computed_number op.Mul x y = fitted_number (x *ℤ y)
computed_number op.Div x y = by_zero y _ (fitted_number (int_div x y))
computed_number op.Rem x y = by_zero y _ (fitted_number (int_rem x y))
computed_number op.Eq x y = no_value
computed_number op.Ne x y = no_value
computed_number op.Lt x y = no_value
computed_number op.Le x y = no_value
computed_number op.Gt x y = no_value
computed_number op.Ge x y = no_value
computed_number op.And x y = no_value
computed_number op.Or x y = no_value

arithmetic_value : (o : BinOp) (a b : Val) → IsPrintable (arithmetic o a b)
arithmetic_value o a b = by_two (on_numbers (computed o)) a b (by_numbers (computed o) (computed_number o) a b)

compared_value : (o : BinOp) (c : Option Ordering) → IsPrintable (compared o c)
compared_value o None = no_value
compared_value o (Some c) = a_truth _

compare_value : (o : BinOp) (a b : Val) → IsPrintable (compare o a b)
compare_value o a b = by_two (λ a b. compared o (order_of a b)) a b (compared_value o (order_of a b))

pub binary_value : (o : BinOp) (a b : Val) → IsPrintable (binary o a b)
binary_value op.Add a b = arithmetic_value op.Add a b
binary_value op.Sub a b = arithmetic_value op.Sub a b
binary_value op.Mul a b = arithmetic_value op.Mul a b
binary_value op.Div a b = arithmetic_value op.Div a b
binary_value op.Rem a b = arithmetic_value op.Rem a b
binary_value op.Eq a b = compare_value op.Eq a b
binary_value op.Ne a b = compare_value op.Ne a b
binary_value op.Lt a b = compare_value op.Lt a b
binary_value op.Le a b = compare_value op.Le a b
binary_value op.Gt a b = compare_value op.Gt a b
binary_value op.Ge a b = compare_value op.Ge a b
binary_value op.And a b = of_logics _
binary_value op.Or a b = of_logics _

pub negative_value : (a : Val) → IsPrintable (negative a)
negative_value a = by_one (on_number (λ n. fitted (neg_ℤ n))) a (by_number (λ n. fitted (neg_ℤ n)) (λ n. fitted_number (neg_ℤ n)) a)

pub not_value : (l : Logic) → IsPrintable (of_logic l)
not_value = of_logics

pub is_value : (w : IsWhat) (v : Val) → IsPrintable (is_of w v)
is_value what.Null v = a_truth _
is_value what.Missing v = a_truth _
is_value what.True v = a_truth _
is_value what.False v = a_truth _

pub member_value : (v : Val) (ws : List Val) → IsPrintable (member_of v ws)
member_value v [] = a_truth false
member_value v (w ∷ ws) = of_logics _

pub between_value : (v low high : Val) → IsPrintable (between_of v low high)
between_value v low high = of_logics _

pub matching_value : (h : How) (pattern : List ℕ) (v : Val) → IsPrintable (matching_of h pattern v)
matching_value h pattern v = by_one (on_text _) v (by_text _ (λ s. a_truth _) v)

unsigned_value : (bytes : List ℕ) → IsPrintable (unsigned_number bytes)
unfolding unsigned_number
unsigned_value bytes = either (are_digits bytes) _ missing (fitted_number (pos (decimal_on 0 bytes))) no_value

negated_value : (bytes : List ℕ) → IsPrintable (negative_number bytes)
unfolding negative_number
negated_value bytes = either (are_digits bytes) _ missing (fitted_number (neg_ℤ (pos (decimal_on 0 bytes)))) no_value

spelled_value : (bytes : List ℕ) → IsPrintable (spelled_number bytes)
unfolding spelled_number
spelled_value [] = no_value
spelled_value (b ∷ bytes) = either _ (negative_number bytes) (unsigned_number (b ∷ bytes)) (negated_value bytes) (unsigned_value (b ∷ bytes))

truth_value : (bytes : List ℕ) → IsPrintable (spelled_truth bytes)
unfolding spelled_truth
truth_value bytes = either _ (truth true) _ (a_truth true) (either _ (truth false) missing (a_truth false) no_value)

integer_value : (v : Val) → IsPrintable (to_integer v)
integer_value (int n) = a_number n
integer_value (truth b) = a_number _
integer_value (text s) = spelled_value s
integer_value v = no_value

boolean_value : (v : Val) → IsPrintable (to_boolean v)
boolean_value (truth b) = a_truth b
boolean_value (int n) = a_truth _
boolean_value (text s) = truth_value s
boolean_value v = no_value

pub cast_value : (c : CastTo) (v : Val) → IsPrintable (cast_of c v)
cast_value to.Integer v = by_one to_integer v (integer_value v)
cast_value to.Boolean v = by_one to_boolean v (boolean_value v)

pub trunc_value : (p : Part) (v : Val) → IsPrintable (trunc_of p v)
trunc_value p v =
    by_one (on_date _) v (by_date (λ t. time (trunc p t)) (λ t h. a_time _ (is_time-true _ (start_in_range p t (is_time-holds t h)))) v)

counted_value : (o : Option ℕ) → IsPrintable (counted o)
counted_value None = no_value
counted_value (Some n) = a_number _

pub extract_value : (p : Part) (v : Val) → IsPrintable (extract_of p v)
extract_value p v = by_one (on_date _) v (by_date (λ t. counted (extract p t)) (λ t h. counted_value (extract p t)) v)

timed_value : (t : ℤ) → IsPrintable (timed t)
timed_value t = go (is_time t) refl
  where
    go : (b : Bool) → is_time t ≡ b → IsPrintable (cond b (time t) missing)
    go true h = a_time t h
    go false h = no_value

moved_value : (o : Option ℕ) (n t : ℤ) → IsPrintable (moved o n t)
moved_value None n t = no_value
moved_value (Some l) n t = timed_value (t +ℤ n *ℤ pos l)

shifted_value : (rule : ℤ → ℤ → Val) → ((n t : ℤ) → IsPrintable (rule n t)) → (v w : Val) → IsPrintable (on_count_and_time rule v w)
shifted_value rule h (int n) (time t) = h n t
shifted_value rule h v w = no_value

pub shift_value : (p : Part) (v w : Val) → IsPrintable (shift_of p v w)
shift_value p v w = by_two (on_count_and_time _) v w (shifted_value (moved (length_of p)) (moved_value (length_of p)) v w)

first_value : (v w : Val) → IsPrintable v → IsPrintable w → IsPrintable (first_of v w)
first_value missing w h k = k
first_value null w h k = either (is_missing w) null w is_null_value k
first_value (truth b) w h k = h
first_value (int n) w h k = h
first_value (time t) w h k = h
first_value (text s) w h k = h
first_value (list vs) w h k = h
first_value (struct fs) w h k = h

coalesced_value : (vs : List Val) → Each IsPrintable vs → IsPrintable (coalesce vs)
coalesced_value [] h = no_value
coalesced_value (v ∷ vs) h = first_value v (coalesce vs) h.0 (coalesced_value vs h.1)

of_one_argument : (f : Val → Val) → ((v : Val) → IsPrintable (f v)) → (vs : List Val) → IsPrintable (with_one f vs)
of_one_argument f h [] = no_value
of_one_argument f h (v ∷ []) = h v
of_one_argument f h (v ∷ w ∷ vs) = no_value

null_if_value : (vs : List Val) → Each IsPrintable vs → IsPrintable (with_two null_if vs)
null_if_value [] h = no_value
null_if_value (v ∷ []) h = no_value
null_if_value (v ∷ w ∷ []) h = either (is_true (compare op.Eq v w)) null v is_null_value h.0
null_if_value (v ∷ w ∷ x ∷ vs) h = no_value

pub call_value : (f : Func) (vs : List Val) → Each IsPrintable vs → IsPrintable (call_of f vs)
call_value func.Coalesce vs h = coalesced_value vs h
call_value func.NullIf vs h = null_if_value vs h
call_value func.CharLength vs h = of_one_argument char_length (λ v. by_one (on_text _) v (by_text _ (λ s. a_number _) v)) vs
call_value func.UnixEpoch vs h = of_one_argument unix_epoch (λ v. by_one (on_time _) v (by_time _ (λ t. a_number _) v)) vs
call_value func.UnixMicro vs h = of_one_argument unix_micro (λ v. by_one (on_time _) v (by_time _ (λ t. a_number _) v)) vs

pub choice_value : (test v later : Val) → IsPrintable v → IsPrintable later → IsPrintable (choice_of test v later)
choice_value test v later h k = either (is_true test) v later h k

-- what stands in a value without MISSING is one
whole_value : (v : Val) → HasTimesInRange v → HasNoMissing v → IsPrintable v
whole_value missing t m = absurd m
whole_value null t m = record { times = t; missing = m }
whole_value (truth b) t m = record { times = t; missing = m }
whole_value (int n) t m = record { times = t; missing = m }
whole_value (time n) t m = record { times = t; missing = m }
whole_value (text s) t m = record { times = t; missing = m }
whole_value (list vs) t m = record { times = t; missing = m }
whole_value (struct fs) t m = record { times = t; missing = m }

first_pair : (b : Bool) (v : Val) (o : Option Val) → IsPrintable v → IsPrintable (unwrap_or o missing) → IsPrintable (unwrap_or (cond b (Some v) o) missing)
first_pair true v o h k = h
first_pair false v o h k = k

in_pairs : (n : List ℕ) (fs : Fields) → PairsHaveTimesInRange fs → PairsHaveNoMissing fs → IsPrintable (unwrap_or (value_of n (pairs fs)) missing)
in_pairs n no_fields t m = no_value
in_pairs n (field f v fs) t m = first_pair (pointwise nat_eq f n) v (value_of n (pairs fs)) (whole_value v t.0 m.0) (in_pairs n fs t.1 m.1)

in_items : (i : ℕ) (vs : Vals) → HaveTimesInRange vs → HaveNoMissing vs → IsPrintable (unwrap_or (slice_get (items vs) i) missing)
in_items i no_vals t m = no_value
in_items zero (val v vs) t m = whole_value v t.0 m.0
in_items (suc i) (val v vs) t m = in_items i vs t.1 m.1

step_value : (s : Step) (v : Val) → IsPrintable v → IsPrintable (step_of s v)
step_value (name n) (struct fs) h = in_pairs n fs h.times h.missing
step_value (name n) (list vs) h = no_value
step_value (name n) missing h = no_value
step_value (name n) null h = no_value
step_value (name n) (truth b) h = no_value
step_value (name n) (int k) h = no_value
step_value (name n) (time t) h = no_value
step_value (name n) (text s) h = no_value
step_value (at i) (list vs) h = in_items i vs h.times h.missing
step_value (at i) (struct fs) h = no_value
step_value (at i) missing h = no_value
step_value (at i) null h = no_value
step_value (at i) (truth b) h = no_value
step_value (at i) (int k) h = no_value
step_value (at i) (time t) h = no_value
step_value (at i) (text s) h = no_value

pub path_value : (ss : List Step) (v : Val) → IsPrintable v → IsPrintable (path_of ss v)
path_value [] v h = h
path_value (s ∷ ss) v h = path_value ss (step_of s v) (step_value s v h)

pub nothing : IsPrintable missing
nothing = no_value

pub in_range : (t : ℤ) → is_time t ≡ true → IsPrintable (time t)
in_range t h = a_time t h
