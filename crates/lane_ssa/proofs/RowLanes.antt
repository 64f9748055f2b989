-- The rows of a chunk in their lanes.
use Rattle.std.proofs.Common.{◌≡◌, ℕ, zero, suc, ◌-◌, ◌/◌, ◌%◌, ◌^◌, ◌<◌, ◌≤◌, refl, ap, sym, ◌∙◌, arith, Bool, true, false, nat_eq, nat_lt, List, [], ◌∷◌, length, take, drop, Some, slice_get}
use Rattle.std.specs.Prelude.{unwrap_or}
use Rattle.std.proofs.lemmas.Bool.Decides.{nat_tests}
use Rattle.std.proofs.lemmas.Nat.Bits.{bit_at_ones, bit_at_ones_above}
use Rattle.value_meaning.specs.Val.{Val, missing, null, truth, int, time, text, list, struct}
use Rattle.block_meaning.specs.Tables.{Table}
use Rattle.block_meaning.specs.Blocks.{is_struct, AreRows}
use Rattle.block_meaning.specs.CellReading.{is_cell, cell_value}
use Rattle.block_file.specs.Chunks.{AreCellsOf}
use Rattle.lane_field.proofs.Parts.{is_of}
use Rattle.lane_base.specs.Bits.{has}
use Rattle.lane_base.specs.Registers.{under}
use Rattle.lane_base.specs.Shown.{is_nested, IsTree}
use Rattle.eval_meaning.specs.Pair.{alone}
use Rattle.program_meaning.specs.Registers.{Lane, lane_of}

-- the bits below n
pub has_below : (n i : ℕ) → has (2 ^ n - 1) i ≡ nat_lt i n
unfolding has
has_below n i = below (nat_lt i n) refl
  where
    below : (b : Bool) → nat_lt i n ≡ b → nat_eq ((2 ^ n - 1) / 2 ^ i % 2) 1 ≡ b
    below true e = let h : i < n = grind (arith, nat_tests) in ap (λ b. nat_eq b 1) (bit_at_ones n i h)
    below false e = let h : n ≤ i = grind (arith, nat_tests) in ap (λ b. nat_eq b 1) (bit_at_ones_above n i h)

nested_struct : (v : Val) → is_struct v ≡ true → is_nested v ≡ true
nested_struct missing h = cc
nested_struct null h = cc
nested_struct (truth b) h = cc
nested_struct (int n) h = cc
nested_struct (time t) h = cc
nested_struct (text s) h = cc
nested_struct (list vs) h = refl
nested_struct (struct fs) h = refl

some_same : {a b : List ℕ} → Some b ≡ Some a → a ≡ b
some_same {a = a} {b = b} e = sym (ap (λ o. unwrap_or o a) e)

abbrev lane_with : Bool → Val → Lane
lane_with b v = record { live = b; pair = alone v }

-- what a lane is given by a test and a value
abbrev given : Bool → Val → Lane
given b v = lane_with b (under b v)

-- what each lane is given, by the bytes that it holds where it is live
pub lane_given : (table : Table) (rows : List Val) (cells : List (List ℕ)) (i : ℕ) (span : List ℕ) → AreCellsOf table rows cells → (i < length cells → slice_get cells i ≡ Some span) → given (nat_lt i (length cells)) (cell_value table span) ≡ lane_of (slice_get rows i)
lane_given table [] [] i span h got = let none : nat_lt i 0 ≡ false = grind (arith, nat_tests) in rw none refl
lane_given table [] (b ∷ bs) i span h got = absurd h
lane_given table (v ∷ vs) [] i span h got = absurd h
lane_given table (v ∷ vs) (b ∷ bs) zero span h got =
    let same : span ≡ b = some_same (got (omega arith)) in
    let live : nat_lt 0 (suc (length bs)) ≡ true = grind (arith, nat_tests) in
    rw live (ap (given true) (ap (cell_value table) same ∙ (is_of table 0 v b refl h.0).1))
lane_given table (v ∷ vs) (b ∷ bs) (suc i) span h got =
    let next : nat_lt (suc i) (suc (length bs)) ≡ nat_lt i (length bs) = grind (arith, nat_tests) in
    rw next (lane_given table vs bs i span h.1 (λ l. got (omega arith)))

pub row_tree : (table : Table) (rows : List Val) (cells : List (List ℕ)) (i : ℕ) (span : List ℕ) → AreCellsOf table rows cells → AreRows rows → i < length cells → slice_get cells i ≡ Some span → IsTree table span
row_tree table [] [] i span h r l got = absurd (omega arith)
row_tree table [] (b ∷ bs) i span h r l got = absurd h
row_tree table (v ∷ vs) [] i span h r l got = absurd h
row_tree table (v ∷ vs) (b ∷ bs) zero span h r l got =
    let same : span ≡ b = some_same got in
    let cell = is_of table 0 v b refl h.0 in
    record { legal = ap (is_cell table) same ∙ cell.0; nested = ap (λ s. is_nested (cell_value table s)) same ∙ ap is_nested cell.1 ∙ nested_struct v r.0 }
row_tree table (v ∷ vs) (b ∷ bs) (suc i) span h r l got = row_tree table vs bs i span h.1 r.1 (omega arith) got

pub lane_by_parts : {a b : Bool} {v w : Val} → a ≡ b → v ≡ w → lane_with a v ≡ lane_with b w
lane_by_parts {b = b} {v = v} e f = ap (λ x. lane_with x v) e ∙ ap (lane_with b) f

-- the rows of a chunk are rows
pub rows_from_rows : (n first : ℕ) (rows : List Val) → AreRows rows → AreRows (take n (drop first rows))
rows_from_rows zero zero [] h = tt
rows_from_rows zero zero (v ∷ vs) h = tt
rows_from_rows zero (suc first) [] h = tt
rows_from_rows zero (suc first) (v ∷ vs) h = rows_from_rows zero first vs h.1
rows_from_rows (suc n) zero [] h = tt
rows_from_rows (suc n) zero (v ∷ vs) h = (h.0, rows_from_rows n zero vs h.1)
rows_from_rows (suc n) (suc first) [] h = tt
rows_from_rows (suc n) (suc first) (v ∷ vs) h = rows_from_rows (suc n) first vs h.1
