-- Lines can show what stands in lanes, and what groups of it have.
use Rattle.std.proofs.Common.{◌≡◌, ℕ, zero, suc, ℤ, ◌<◌, List, [], ◌∷◌, length, map, get_or, Bool, true, false, cond, Option, None, Some, refl, sym, ap, subst, ◌∙◌, arith}
use Rattle.std.specs.Prelude.{All}
use Rattle.std.specs.List.{filter, reduce}
use Rattle.std.specs.Int.{int_min, int_max}
use Rattle.std.proofs.lemmas.List.Elements.{All-tail, All-cons, All-nil, All-append, All-map, All-contains}
use Rattle.value_meaning.specs.Val.{Val, missing, null, truth, int, time, text, list, struct}
use Rattle.time_meaning.specs.Moments.{is_time}
use Rattle.block_meaning.specs.Tables.{Table}
use Rattle.block_meaning.specs.CellReading.{cell_value}
use Rattle.block_meaning.proofs.CellSteps.{is_cell_reads}
use Rattle.block_meaning.proofs.StoredCells.{read_stored}
use Rattle.block_meaning.proofs.TimeRange.{is_time-from_bounds}
use Rattle.json_out.proofs.Stored.{stored_is_taken}
use Rattle.tree_meaning.specs.declared.AggName.{AggName}
use Rattle.tree_meaning.specs.declared.AggName.TheVariants as aggs
use Rattle.agg_meaning.specs.Operands.{numbers, times, truths, time_in}
use Rattle.agg_meaning.specs.Aggregates.{aggregate, sum_of, average_of, number_or_null, time_or_null, truth_or_null, both, either}
use Rattle.agg_meaning.specs.Keys.{same_keys}
use Rattle.agg_meaning.specs.Partials.{Partial}
use Rattle.agg_meaning.proofs.Best.{least_least, greatest_greatest}
use Rattle.agg_meaning.proofs.Keys.{same_keys-exact, same_keys-same}
use Rattle.program_meaning.specs.Registers.{value_at}
use Rattle.lane_base.specs.declared.lanes.Lanes.{Lanes}
use Rattle.lane_base.specs.Shown.{Shown, Missing, Null, Truth, Int, Time, Text, Tree, value_under, IsLegal}
use Rattle.lane_base.specs.Registers.{AreLegal, shown}
use Rattle.lane_base.specs.Registers as lanes
use Rattle.lane_ssa.specs.Frames.{FrameView, state_at}
use Rattle.hash_agg.specs.Groups.{Keyed, Entry, first, rest, has_keys, group_of, aggregates_of, group_partials, partials_at, AreApart, GroupsStandFor}
use Rattle.hash_agg.specs.Finished.{row_of}
use Rattle.hash_agg.proofs.Places.{by_test, hit, miss}
use Rattle.group_out.specs.Summaries.{IsPrintable, IsPrintableRow}
use Rattle.batch_groups.specs.Keyed.{operand_at}
use Rattle.batch_groups.specs.Gathered.{IsPrintableKeyed}
use Rattle.batch_groups.specs.OfQuery.{row_of_keys}
use Rattle.batch_groups.proofs.Counting.{keys_of}
use Rattle.batch_groups.proofs.Summing.{rows_are}

plain_missing : IsPrintable missing
plain_missing = record { times = tt; missing = tt }

plain_null : IsPrintable null
plain_null = record { times = tt; missing = tt }

plain_truth : (b : Bool) → IsPrintable (truth b)
plain_truth b = record { times = tt; missing = tt }

plain_int : (n : ℤ) → IsPrintable (int n)
plain_int n = record { times = tt; missing = tt }

in_range : (t : ℤ) → is_time t ≡ true → IsPrintable (time t)
in_range t h = record { times = h; missing = tt }

-- what a lane shows
legal_shown : (table : Table) (s : Shown) → IsLegal table s → IsPrintable (value_under table s)
legal_shown table Missing h = plain_missing
legal_shown table Null h = plain_null
legal_shown table (Truth b) h = plain_truth b
legal_shown table (Int n) h = plain_int n
legal_shown table (Time t) h = in_range t (is_time-from_bounds t h)
legal_shown table (Text s) h = record { times = tt; missing = tt }
legal_shown table (Tree cell) h =
    let taken = stored_is_taken (cell_value table cell) (read_stored table cell (cell_value table cell) [] (is_cell_reads table cell h.legal)) in
    record { times = taken.0; missing = taken.1 }

module _ (table : Table) (lane : ℕ) (below : lane < 16) where
  in_lanes : (all : List Lanes) (r : ℕ) → All (AreLegal table) all → IsPrintable (get_or (map (λ (l : Lanes). lanes.value_at table l lane) all) r missing)
  in_lanes [] zero h = plain_missing
  in_lanes [] (suc r) h = plain_missing
  in_lanes (l ∷ all) zero h = legal_shown table (shown l lane) ((h 0 l (omega arith)).lane lane below)
  in_lanes (l ∷ all) (suc r) h = in_lanes all r (All-tail (AreLegal table) l all h)

  module _ (f : FrameView) (legal : All (AreLegal table) f.values) where
    register_shown : (r : ℕ) → IsPrintable (value_at (state_at table f lane) r)
    register_shown r = in_lanes f.values r legal

    operand_shown : (a : AggName × Option ℕ) → IsPrintable (operand_at (state_at table f lane) a)
    operand_shown (name, None) = plain_missing
    operand_shown (name, Some r) = register_shown r

    -- the keys and the operands of a row
    pub keys_shown : (registers : List ℕ) → All IsPrintable (map (value_at (state_at table f lane)) registers)
    keys_shown [] = All-nil IsPrintable
    keys_shown (r ∷ registers) = All-cons IsPrintable _ _ (register_shown r) (keys_shown registers)

    pub operands_shown : (ends : List (AggName × Option ℕ)) → All IsPrintable (map (operand_at (state_at table f lane)) ends)
    operands_shown [] = All-nil IsPrintable
    operands_shown (a ∷ ends) = All-cons IsPrintable _ _ (operand_shown a) (operands_shown ends)

-- the times among values
time_of_one : (v : Val) → IsPrintable v → All (λ t. is_time t ≡ true) (time_in v)
time_of_one missing h = All-nil (λ t. is_time t ≡ true)
time_of_one null h = All-nil (λ t. is_time t ≡ true)
time_of_one (truth b) h = All-nil (λ t. is_time t ≡ true)
time_of_one (int n) h = All-nil (λ t. is_time t ≡ true)
time_of_one (time t) h = All-cons (λ t. is_time t ≡ true) t [] h.times (All-nil (λ t. is_time t ≡ true))
time_of_one (text s) h = All-nil (λ t. is_time t ≡ true)
time_of_one (list vs) h = All-nil (λ t. is_time t ≡ true)
time_of_one (struct fs) h = All-nil (λ t. is_time t ≡ true)

times_in : (vs : List Val) → All IsPrintable vs → All (λ t. is_time t ≡ true) (times vs)
times_in [] h = All-nil (λ t. is_time t ≡ true)
times_in (v ∷ vs) h = All-append (λ t. is_time t ≡ true) (time_in v) (times vs) (time_of_one v (h 0 v (omega arith))) (times_in vs (All-tail IsPrintable v vs h))

best_in : (o : Option ℤ) → ((t : ℤ) → o ≡ Some t → is_time t ≡ true) → IsPrintable (time_or_null o)
best_in None h = plain_null
best_in (Some t) h = in_range t (h t refl)

sum_shown : (ns : List ℤ) → IsPrintable (sum_of ns)
sum_shown [] = plain_null
sum_shown (n ∷ ns) = plain_int _

average_shown : (ns : List ℤ) → IsPrintable (average_of ns)
average_shown [] = plain_null
average_shown (n ∷ ns) = plain_int _

number_shown : (o : Option ℤ) → IsPrintable (number_or_null o)
number_shown None = plain_null
number_shown (Some n) = plain_int n

truth_shown : (o : Option Bool) → IsPrintable (truth_or_null o)
truth_shown None = plain_null
truth_shown (Some b) = plain_truth b

aggregate_shown : (n : AggName) (vs : List Val) → All IsPrintable vs → IsPrintable (aggregate n vs)
aggregate_shown aggs.CountAll vs h = plain_int _
aggregate_shown aggs.Count vs h = plain_int _
aggregate_shown aggs.Sum vs h = sum_shown (numbers vs)
aggregate_shown aggs.Avg vs h = average_shown (numbers vs)
aggregate_shown aggs.Min vs h = number_shown (reduce int_min (numbers vs))
aggregate_shown aggs.Max vs h = number_shown (reduce int_max (numbers vs))
aggregate_shown aggs.Earliest vs h = best_in (reduce int_min (times vs)) (λ t e. All-contains (λ t. is_time t ≡ true) (times vs) t (times_in vs h) (least_least (times vs) t e).0)
aggregate_shown aggs.Latest vs h = best_in (reduce int_max (times vs)) (λ t e. All-contains (λ t. is_time t ≡ true) (times vs) t (times_in vs h) (greatest_greatest (times vs) t e).0)
aggregate_shown aggs.BoolAnd vs h = truth_shown (reduce both (truths vs))
aggregate_shown aggs.BoolOr vs h = truth_shown (reduce either (truths vs))

first_shown : (vs : List Val) → All IsPrintable vs → IsPrintable (first vs)
first_shown [] h = plain_missing
first_shown (v ∷ vs) h = h 0 v (omega arith)

rest_shown : (vs : List Val) → All IsPrintable vs → All IsPrintable (rest vs)
rest_shown [] h = All-nil IsPrintable
rest_shown (v ∷ vs) h = All-tail IsPrintable v vs h

firsts_shown : (rows : List (List Val)) → All (All IsPrintable) rows → All IsPrintable (map first rows)
firsts_shown [] h = All-nil IsPrintable
firsts_shown (r ∷ rows) h = All-cons IsPrintable _ _ (first_shown r (h 0 r (omega arith))) (firsts_shown rows (All-tail (All IsPrintable) r rows h))

rests_shown : (rows : List (List Val)) → All (All IsPrintable) rows → All (All IsPrintable) (map rest rows)
rests_shown [] h = All-nil (All IsPrintable)
rests_shown (r ∷ rows) h = All-cons (All IsPrintable) _ _ (rest_shown r (h 0 r (omega arith))) (rests_shown rows (All-tail (All IsPrintable) r rows h))

aggregates_shown : (names : List AggName) (rows : List (List Val)) → All (All IsPrintable) rows → All IsPrintable (aggregates_of names rows)
aggregates_shown [] rows h = All-nil IsPrintable
aggregates_shown (n ∷ names) rows h = All-cons IsPrintable _ _ (aggregate_shown n (map first rows) (firsts_shown rows h)) (aggregates_shown names (map rest rows) (rests_shown rows h))

pub empty_row_shown : (names : List AggName) → IsPrintableRow ([], aggregates_of names [])
empty_row_shown names = record { keys = All-nil IsPrintable; aggs = aggregates_shown names [] (All-nil (All IsPrintable)) }

-- the operands of a group's rows
group_shown : (ks : List Val) (rows : List Keyed) → All IsPrintableKeyed rows → All (All IsPrintable) (group_of ks rows)
group_shown ks [] h = All-nil (All IsPrintable)
group_shown ks (r ∷ rows) h = on (same_keys ks r.0) (group_shown ks rows (All-tail IsPrintableKeyed r rows h)) (h 0 r (omega arith))
  where
    on : (b : Bool) → All (All IsPrintable) (group_of ks rows) → IsPrintableKeyed r → All (All IsPrintable) (map (λ (x : Keyed). x.1) (cond b (r ∷ filter (has_keys ks) rows) (filter (has_keys ks) rows)))
    on true later own = All-cons (All IsPrintable) r.1 (group_of ks rows) own.operands later
    on false later own = later

-- and its keys
found_one : (names : List AggName) (ks : List Val) (ss : List Partial) (r : Keyed) (rows : List Keyed) → (Some ss ≡ group_partials names (group_of ks rows) → All IsPrintable ks) → IsPrintableKeyed r → Some ss ≡ group_partials names (group_of ks (r ∷ rows)) → All IsPrintable ks
found_one names ks ss r rows later own e = by_test (same_keys ks r.0)
    (λ t. subst (All IsPrintable) (sym (same_keys-exact ks r.0 t)) own.keys)
    (λ t.
    let same : group_of ks (r ∷ rows) ≡ group_of ks rows = rw t refl in
    later (e ∙ ap (group_partials names) same))

found_shown : (names : List AggName) (ks : List Val) (ss : List Partial) (rows : List Keyed) → All IsPrintableKeyed rows → Some ss ≡ group_partials names (group_of ks rows) → All IsPrintable ks
found_shown names ks ss [] h e = absurd (cc)
found_shown names ks ss (r ∷ rows) h e = found_one names ks ss r rows (λ f. found_shown names ks ss rows (All-tail IsPrintableKeyed r rows h) f) (h 0 r (omega arith)) e

row_shown : (names : List AggName) (rows : List Keyed) (ks : List Val) → All IsPrintableKeyed rows → All IsPrintable ks → IsPrintableRow (row_of_keys names rows ks)
row_shown names rows ks h k = record { keys = k; aggs = aggregates_shown names (group_of ks rows) (group_shown ks rows h) }

keyed_shown : (names : List AggName) (rows : List Keyed) (es : List Entry) → All IsPrintableKeyed rows → AreApart es → ((ks : List Val) (ss : List Partial) → partials_at ks es ≡ Some ss → Some ss ≡ group_partials names (group_of ks rows))
    → All IsPrintableRow (map (row_of_keys names rows) (keys_of es))
keyed_shown names rows [] h a f = All-nil IsPrintableRow
keyed_shown names rows (e ∷ es) h a f =
    let own = found_shown names e.0 e.1 rows h (f e.0 e.1 (hit e.0 e es (same_keys-same e.0))) in
    All-cons IsPrintableRow _ _ (row_shown names rows e.0 h own)
    (keyed_shown names rows es h a.1 (λ ks ss g. by_test (same_keys ks e.0)
    (λ t. let same = same_keys-exact ks e.0 t in let none : partials_at ks es ≡ None = ap (λ l. partials_at l es) same ∙ a.0 in absurd (cc))
    (λ t. f ks ss (miss ks e es t ∙ g))))

-- the rows of groups that stand for such rows
pub rows_shown : (names : List AggName) (rows : List Keyed) (es : List Entry) → All IsPrintableKeyed rows → AreApart es → GroupsStandFor names es rows → All IsPrintableRow (map (row_of names) es)
rows_shown names rows es h a stand =
    subst (All IsPrintableRow) (sym (rows_are names rows es a (λ ks ss f. sym f ∙ stand ks))) (keyed_shown names rows es h a (λ ks ss f. sym f ∙ stand ks))
