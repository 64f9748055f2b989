-- What a row of a made log weighs, that it may be written, and that it has its time.
use Rattle.std.proofs.Common.{◌≡◌, ℕ, zero, suc, ◌/◌, ◌%◌, ◌^◌, ◌<◌, ◌≤◌, ◌==◌, Bool, true, false, [], ◌∷◌, ◌++◌, length, refl, arith, lit≤, lit<}
use Rattle.std.specs.Prelude.{pos, Some, codes, slice_index_or, if◌then◌else◌, IsTrue}
use Rattle.std.specs.Fmt.{decimal}
use Rattle.std.proofs.lemmas.Fmt.{length-decimal-le}
use Rattle.std.proofs.lemmas.Nat.{mod_below}
use Rattle.time_meaning.specs.Moments.{is_time}
use Rattle.value_meaning.specs.Val.{Val, null, int, time, fields}
use Rattle.value_meaning.specs.Pairs.{value_of}
use Rattle.write_meaning.specs.Weights.{weight, pair_weights}
use Rattle.write_meaning.specs.Standing.{IsWritable, PairsAreWritable, IsWritableRow}
use Rattle.log_meaning.specs.States.{state_at}
use Rattle.log_meaning.specs.Rows.{agents, agent_of, bytes_of, codes_of_status, status_of, status_value, status_pairs, time_of, first_pairs, row_pairs, row_from}
use Rattle.log_meaning.specs.Laws.{RowsMayBeWritten, RowsAreLight, RowsHaveTimes}

-- the time stands behind the status, whether that is there or not
time_found : (absent : Bool) (v t : Val) → value_of (codes "time") ((if absent then [] else (codes "status", v) ∷ []) ++ (codes "time", t) ∷ []) ≡ Some t
time_found true v t = refl
time_found false v t = refl

pub rows_have_times : RowsHaveTimes
unfolding row_pairs first_pairs status_pairs
rows_have_times number state = time_found (number % 7 == 3) (status_value number state) (time (time_of number))

-- no agent is longer than `Mozilla/5.0`
agent_short : (k : ℕ) → length (slice_index_or agents k []) ≤ 11
agent_short zero = lit≤ tt
agent_short (suc zero) = lit≤ tt
agent_short (suc (suc zero)) = lit≤ tt
agent_short (suc (suc (suc zero))) = lit≤ tt
agent_short (suc (suc (suc (suc k)))) = lit≤ tt

path_short : (k : ℕ) → length (decimal (k % 50)) ≤ 2
path_short k = let low : k % 50 < 50 = mod_below k 50 (lit< tt) in length-decimal-le 2 (k % 50) (lit< tt) (omega arith) (omega arith)

status_light : (is_null : Bool) (n : ℕ) → weight (if is_null then null else int (pos n)) ≤ 9
status_light true n = lit≤ tt
status_light false n = lit≤ tt

-- what stands behind the path weighs at most 50
rest_light : (absent : Bool) (v t : Val) → weight v ≤ 9 → weight t ≤ 13 → pair_weights (fields ((if absent then [] else (codes "status", v) ∷ []) ++ (codes "time", t) ∷ [])) ≤ 50
rest_light true v t low within = omega arith
rest_light false v t low within = omega arith

row_light : (number state : ℕ) → weight (row_from number state) ≤ 130
unfolding row_pairs first_pairs status_pairs
row_light number state =
    let rest = rest_light (number % 7 == 3) (status_value number state) (time (time_of number)) (status_light (number % 11 == 5) (status_of state)) (lit≤ tt) in
    let agent : length (agent_of state) ≤ 11 = agent_short (state / 2 ^ 60 % 4) in
    let path : length (decimal (state / 2 ^ 48 % 50)) ≤ 2 = path_short (state / 2 ^ 48) in
    omega arith

pub rows_are_light : RowsAreLight
rows_are_light start number = row_light number (state_at start (suc number))

-- every status is below 2^63
status_small : (k : ℕ) → slice_index_or codes_of_status k 0 < 2 ^ 63
status_small zero = lit< tt
status_small (suc zero) = lit< tt
status_small (suc (suc zero)) = lit< tt
status_small (suc (suc (suc zero))) = lit< tt
status_small (suc (suc (suc (suc zero)))) = lit< tt
status_small (suc (suc (suc (suc (suc zero))))) = lit< tt
status_small (suc (suc (suc (suc (suc (suc zero)))))) = lit< tt
status_small (suc (suc (suc (suc (suc (suc (suc zero))))))) = lit< tt
status_small (suc (suc (suc (suc (suc (suc (suc (suc k)))))))) = lit< tt

status_stands : (is_null : Bool) (n : ℕ) → n < 2 ^ 63 → IsWritable 1 (if is_null then null else int (pos n))
status_stands true n low = tt
status_stands false n low = low

-- what stands behind the path may be written where the time may
rest_stands : (absent : Bool) (v t : Val) → IsWritable 1 v → IsWritable 1 t → PairsAreWritable 1 (fields ((if absent then [] else (codes "status", v) ∷ []) ++ (codes "time", t) ∷ []))
rest_stands true v t one other = (other, tt)
rest_stands false v t one other = (one, (other, tt))

time_stands : (number : ℕ) → number < 2 ^ 32 → IsTrue (is_time (time_of number))
time_stands number low = search (arith)

row_stands : (number state : ℕ) → number < 2 ^ 32 → IsWritableRow (row_from number state)
unfolding row_pairs first_pairs status_pairs IsWritableRow
row_stands number state low =
    let bytes : bytes_of state < 2 ^ 63 = omega (arith, mod_below (state / 2 ^ 32) 65_536 (lit< tt)) in
    let status = status_stands (number % 11 == 5) (status_of state) (status_small (state / 2 ^ 40 % 8)) in
    (refl, (lit< tt, (tt, (bytes, (tt, rest_stands (number % 7 == 3) (status_value number state) (time (time_of number)) status (time_stands number low))))))

pub rows_may_be_written : RowsMayBeWritten
rows_may_be_written start number low = row_stands number (state_at start (suc number)) low
