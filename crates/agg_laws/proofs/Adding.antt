-- A value that is added to a partial aggregate.
use Rattle.std.proofs.Common.{◌≡◌, ℕ, ℤ, ◌+ℤ◌, ◌+◌, ◌<◌, ◌≤◌, List, [], ◌∷◌, ◌++◌, length, Option, Some, Bool, true, refl, sym, ap, ◌∙◌, arith, length-append}
use Rattle.std.proofs.lemmas.Int.{ints}
use Rattle.std.specs.List.{filter}
use Rattle.value_meaning.specs.Val.{Val, missing, null, truth, int, time, text, list, struct}
use Rattle.tree_meaning.specs.declared.AggName.{AggName}
use Rattle.tree_meaning.specs.declared.AggName.TheVariants as aggs
use Rattle.eval_meaning.specs.LogicLaws.{is_present}
use Rattle.agg_meaning.specs.Operands.{number_in, numbers}
use Rattle.agg_meaning.specs.Partials.{Partial, partial_of, joined, StandsFor, counted, summed}
use Rattle.agg_meaning.proofs.Partials.{partial_joined}
use Rattle.agg_laws.specs.declared.seen.Seen.{Seen}
use Rattle.agg_laws.specs.declared.seen.Seen.TheVariants as of
use Rattle.agg_laws.specs.Shows.{Shows, is_other, shown_number}
use Rattle.agg_laws.specs.Alone.{alone, summed_alone}
use Rattle.agg_laws.specs.Room.{HasRoom, HaveRoom}

missing_alone : (n : AggName) → partial_of n (missing ∷ []) ≡ alone n of.Missing
missing_alone aggs.CountAll = refl
missing_alone aggs.Count = refl
missing_alone aggs.Sum = refl
missing_alone aggs.Avg = refl
missing_alone aggs.Min = refl
missing_alone aggs.Max = refl
missing_alone aggs.Earliest = refl
missing_alone aggs.Latest = refl
missing_alone aggs.BoolAnd = refl
missing_alone aggs.BoolOr = refl

null_alone : (n : AggName) → partial_of n (null ∷ []) ≡ alone n of.Null
null_alone aggs.CountAll = refl
null_alone aggs.Count = refl
null_alone aggs.Sum = refl
null_alone aggs.Avg = refl
null_alone aggs.Min = refl
null_alone aggs.Max = refl
null_alone aggs.Earliest = refl
null_alone aggs.Latest = refl
null_alone aggs.BoolAnd = refl
null_alone aggs.BoolOr = refl

truth_alone : (n : AggName) → (b : Bool) → partial_of n (truth b ∷ []) ≡ alone n (of.Bool b)
truth_alone aggs.CountAll b = refl
truth_alone aggs.Count b = refl
truth_alone aggs.Sum b = refl
truth_alone aggs.Avg b = refl
truth_alone aggs.Min b = refl
truth_alone aggs.Max b = refl
truth_alone aggs.Earliest b = refl
truth_alone aggs.Latest b = refl
truth_alone aggs.BoolAnd b = refl
truth_alone aggs.BoolOr b = refl

int_alone : (n : AggName) → (m : ℤ) → partial_of n (int m ∷ []) ≡ alone n (of.Int m)
int_alone aggs.CountAll m = refl
int_alone aggs.Count m = refl
int_alone aggs.Sum m = ap (summed 1) (omega (arith, ints))
int_alone aggs.Avg m = ap (summed 1) (omega (arith, ints))
int_alone aggs.Min m = refl
int_alone aggs.Max m = refl
int_alone aggs.Earliest m = refl
int_alone aggs.Latest m = refl
int_alone aggs.BoolAnd m = refl
int_alone aggs.BoolOr m = refl

time_alone : (n : AggName) → (t : ℤ) → partial_of n (time t ∷ []) ≡ alone n (of.Time t)
time_alone aggs.CountAll t = refl
time_alone aggs.Count t = refl
time_alone aggs.Sum t = refl
time_alone aggs.Avg t = refl
time_alone aggs.Min t = refl
time_alone aggs.Max t = refl
time_alone aggs.Earliest t = refl
time_alone aggs.Latest t = refl
time_alone aggs.BoolAnd t = refl
time_alone aggs.BoolOr t = refl

other_alone : (n : AggName) (v : Val) → is_other v ≡ true → partial_of n (v ∷ []) ≡ alone n of.Other
other_alone aggs.CountAll (text s) h = refl
other_alone aggs.CountAll (list vs) h = refl
other_alone aggs.CountAll (struct fs) h = refl
other_alone aggs.Count (text s) h = refl
other_alone aggs.Count (list vs) h = refl
other_alone aggs.Count (struct fs) h = refl
other_alone aggs.Sum (text s) h = refl
other_alone aggs.Sum (list vs) h = refl
other_alone aggs.Sum (struct fs) h = refl
other_alone aggs.Avg (text s) h = refl
other_alone aggs.Avg (list vs) h = refl
other_alone aggs.Avg (struct fs) h = refl
other_alone aggs.Min (text s) h = refl
other_alone aggs.Min (list vs) h = refl
other_alone aggs.Min (struct fs) h = refl
other_alone aggs.Max (text s) h = refl
other_alone aggs.Max (list vs) h = refl
other_alone aggs.Max (struct fs) h = refl
other_alone aggs.Earliest (text s) h = refl
other_alone aggs.Earliest (list vs) h = refl
other_alone aggs.Earliest (struct fs) h = refl
other_alone aggs.Latest (text s) h = refl
other_alone aggs.Latest (list vs) h = refl
other_alone aggs.Latest (struct fs) h = refl
other_alone aggs.BoolAnd (text s) h = refl
other_alone aggs.BoolAnd (list vs) h = refl
other_alone aggs.BoolAnd (struct fs) h = refl
other_alone aggs.BoolOr (text s) h = refl
other_alone aggs.BoolOr (list vs) h = refl
other_alone aggs.BoolOr (struct fs) h = refl
other_alone n v h = cc

pub shown_alone : (n : AggName) (item : Seen) (v : Val) → Shows item v → partial_of n (v ∷ []) ≡ alone n item
shown_alone n of.Missing v e = rw e (missing_alone n)
shown_alone n of.Null v e = rw e (null_alone n)
shown_alone n (of.Bool b) v e = rw e (truth_alone n b)
shown_alone n (of.Int m) v e = rw e (int_alone n m)
shown_alone n (of.Time t) v e = rw e (time_alone n t)
shown_alone n of.Other v e = other_alone n v e

-- what `add` owes
pub added : (n : AggName) (s t : Partial) (item : Seen) → t ≡ joined n s (alone n item) → (vs : List Val) (v : Val) → StandsFor n s vs → Shows item v → StandsFor n t (vs ++ v ∷ [])
added n s t item e vs v stands shows =
    e ∙ ap (joined n s) (sym (shown_alone n item v shows)) ∙ ap (λ r. joined n r (partial_of n (v ∷ []))) stands ∙ sym (partial_joined n vs (v ∷ []))

-- what `merge` owes
pub merged : (n : AggName) (s r t : Partial) → t ≡ joined n s r → (vs ws : List Val) → StandsFor n s vs → StandsFor n r ws → StandsFor n t (vs ++ ws)
merged n s r t e vs ws stands other =
    e ∙ ap (joined n s) other ∙ ap (λ q. joined n q (partial_of n ws)) stands ∙ sym (partial_joined n vs ws)

-- the count that is kept
abbrev pub tally : Partial → ℕ
tally (counted c) = c
tally (summed c s) = c
tally s = 0

kept_at_most : (vs : List Val) → length (filter is_present vs) ≤ length vs
kept_at_most [] = omega arith
kept_at_most (v ∷ vs) = let rest = kept_at_most vs in grind arith

one_at_most : (v : Val) → length (number_in v) ≤ 1
one_at_most (int n) = omega arith
one_at_most v = grind arith

numbers_at_most : (vs : List Val) → length (numbers vs) ≤ length vs
numbers_at_most [] = omega arith
numbers_at_most (v ∷ vs) =
    let rest = numbers_at_most vs in
    let one = one_at_most v in
    let long = length-append (number_in v) (numbers vs) in
    omega arith

tally_at_most : (n : AggName) (vs : List Val) → tally (partial_of n vs) ≤ length vs
tally_at_most aggs.CountAll vs = omega arith
tally_at_most aggs.Count vs = kept_at_most vs
tally_at_most aggs.Sum vs = numbers_at_most vs
tally_at_most aggs.Avg vs = numbers_at_most vs
tally_at_most aggs.Min vs = omega arith
tally_at_most aggs.Max vs = omega arith
tally_at_most aggs.Earliest vs = omega arith
tally_at_most aggs.Latest vs = omega arith
tally_at_most aggs.BoolAnd vs = omega arith
tally_at_most aggs.BoolOr vs = omega arith

-- room for a value, by the count that is kept
pub room_for_one : (n : AggName) (s : Partial) → HasRoom n s → tally s + 1 < 70_368_744_177_664
room_for_one n s r =
    let is = ap tally r.1 in
    let few = tally_at_most n r.0 in
    let short : length r.0 + 1 < 70_368_744_177_664 = r.2 in
    omega arith

-- room for two partials, by the counts that are kept
pub room_for_two : (n : AggName) (s t : Partial) → HaveRoom n s t → tally s + tally t < 70_368_744_177_664
room_for_two n s t r =
    let is = ap tally r.2 in
    let other = ap tally r.3 in
    let few = tally_at_most n r.0 in
    let others = tally_at_most n r.1 in
    let short : length r.0 + length r.1 < 70_368_744_177_664 = r.4 in
    omega arith

-- one number joins the sums
pub sums_added : (item : Seen) (o : Option ℤ) (m : ℤ) (c d k : ℕ) (s t n : ℤ) → o ≡ shown_number item → o ≡ Some m → k ≡ 1 → n ≡ m → d ≡ c + k → t ≡ s +ℤ n → summed d t ≡ joined aggs.Sum (summed c s) (summed_alone (shown_number item))
sums_added item o m c d k s t n read is one it count sum =
    let whole : joined aggs.Sum (summed c s) (summed 1 m) ≡ joined aggs.Sum (summed c s) (summed_alone (shown_number item)) = ap (λ p. joined aggs.Sum (summed c s) (summed_alone p)) (sym is ∙ read) in
    (λ i. summed (count i) (sum i)) ∙ (λ i. summed (c + one i) (s +ℤ it i)) ∙ whole
