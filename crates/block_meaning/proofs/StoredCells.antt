-- What a cell denotes is stored.
use Rattle.std.proofs.Common.{◌≡◌, ℕ, suc, ◌+◌, ◌<◌, ◌≤◌, ◌^◌, List, [], ◌∷◌, Some, pos, negsuc, arith, w64}
use Rattle.std.specs.Prelude.{FitsSigned, All}
use Rattle.std.proofs.lemmas.List.Elements.{All-cons, All-nil}
use Rattle.jiff_core.proofs.SignedLemmas.{signed_arith}
use Rattle.value_meaning.specs.Val.{Val, Vals, Fields, missing, null, truth, int, time, text, list, struct, no_vals, val, no_fields, field, vals, depth, vals_depth, fields_depth}
use Rattle.block_meaning.specs.Tables.{Table}
use Rattle.block_meaning.specs.Cells.{IsCell, AreCells, ArePairs}
use Rattle.block_meaning.specs.CellReading.{cell_to}
use Rattle.block_meaning.specs.Stored.{HasStoredParts, HaveStoredParts, PairsHaveStoredParts, IsStored, HasTimesInRange, HaveTimesInRange, PairsHaveTimesInRange}
use Rattle.block_meaning.specs.Laws.{CellsAreStored}
use Rattle.block_meaning.proofs.NestedReading.{reads_to}
use Rattle.block_meaning.proofs.TimeRange.{timestamp_in_range}

whole_fits : (n : ℕ) → n < 2 ^ 63 → FitsSigned w64 (pos n)
whole_fits n h = omega (arith, signed_arith)

below_zero_fits : (n : ℕ) → n < 2 ^ 63 → FitsSigned w64 (negsuc n)
below_zero_fits n h = omega (arith, signed_arith)

module _ (table : Table) where
  mutual
    cell_parts : (v : Val) (d : ℕ) (bytes : List ℕ) → IsCell table d v bytes → HasStoredParts v
    cell_parts missing d bytes c = c
    cell_parts null d bytes c = tt
    cell_parts (truth b) d bytes c = tt
    cell_parts (int (pos n)) d bytes c = whole_fits n c.3
    cell_parts (int (negsuc n)) d bytes c = below_zero_fits n c.3
    cell_parts (time t) d bytes c = timestamp_in_range t c.0 c.2
    cell_parts (text s) d bytes c = tt
    cell_parts (list vs) d bytes c = cells_parts vs (suc d) c.0 c.3
    cell_parts (struct fs) d bytes c = pairs_parts fs (suc d) 10 c.0 c.3

    cells_parts : (vs : Vals) (d : ℕ) (bytes : List ℕ) → AreCells table d vs bytes → HaveStoredParts vs
    cells_parts no_vals d bytes c = tt
    cells_parts (val v vs) d bytes c = (cell_parts v d c.0 c.3, cells_parts vs d c.1 c.4)

    pairs_parts : (fs : Fields) (d low : ℕ) (bytes : List ℕ) → ArePairs table d low fs bytes → PairsHaveStoredParts fs
    pairs_parts no_fields d low bytes c = tt
    pairs_parts (field n v fs) d low bytes c = (cell_parts v d c.2 c.8, pairs_parts fs d (suc c.0) c.3 c.9)

  mutual
    cell_shallow : (v : Val) (d : ℕ) (bytes : List ℕ) → d ≤ 128 → IsCell table d v bytes → depth v + d ≤ 128
    cell_shallow missing d bytes few c = omega arith
    cell_shallow null d bytes few c = omega arith
    cell_shallow (truth b) d bytes few c = omega arith
    cell_shallow (int n) d bytes few c = omega arith
    cell_shallow (time t) d bytes few c = omega arith
    cell_shallow (text s) d bytes few c = omega arith
    cell_shallow (list vs) d bytes few c =
        let within = c.2 in
        let k = cells_shallow vs (suc d) c.0 (omega arith) c.3 in
        omega arith
    cell_shallow (struct fs) d bytes few c =
        let within = c.2 in
        let k = pairs_shallow fs (suc d) 10 c.0 (omega arith) c.3 in
        omega arith

    cells_shallow : (vs : Vals) (d : ℕ) (bytes : List ℕ) → d ≤ 128 → AreCells table d vs bytes → vals_depth vs + d ≤ 128
    cells_shallow no_vals d bytes few c = omega arith
    cells_shallow (val v vs) d bytes few c =
        let first = cell_shallow v d c.0 few c.3 in
        let others = cells_shallow vs d c.1 few c.4 in
        omega arith

    pairs_shallow : (fs : Fields) (d low : ℕ) (bytes : List ℕ) → d ≤ 128 → ArePairs table d low fs bytes → fields_depth fs + d ≤ 128
    pairs_shallow no_fields d low bytes few c = omega arith
    pairs_shallow (field n v fs) d low bytes few c =
        let first = cell_shallow v d c.2 few c.8 in
        let others = pairs_shallow fs d (suc c.0) c.3 few c.9 in
        omega arith

pub cell_stored : CellsAreStored
cell_stored table v bytes c =
    let shallow = cell_shallow table v 0 bytes (omega arith) c in
    record { parts = cell_parts table v 0 bytes c; shallow = omega arith }

pub cells_stored : (table : Table) (vs : List Val) (bytes : List ℕ) → AreCells table 0 (vals vs) bytes → All IsStored vs
cells_stored table [] bytes c = All-nil IsStored
cells_stored table (v ∷ vs) bytes c = All-cons IsStored v vs (cell_stored table v c.0 c.3) (cells_stored table vs c.1 c.4)

-- the times of what is stored
mutual
  pub parts_times : (v : Val) → HasStoredParts v → HasTimesInRange v
  parts_times missing h = tt
  parts_times null h = tt
  parts_times (truth b) h = tt
  parts_times (int n) h = tt
  parts_times (time t) h = h
  parts_times (text s) h = tt
  parts_times (list vs) h = vals_times vs h
  parts_times (struct fs) h = fields_times fs h

  vals_times : (vs : Vals) → HaveStoredParts vs → HaveTimesInRange vs
  vals_times no_vals h = tt
  vals_times (val v vs) h = (parts_times v h.0, vals_times vs h.1)

  fields_times : (fs : Fields) → PairsHaveStoredParts fs → PairsHaveTimesInRange fs
  fields_times no_fields h = tt
  fields_times (field n v fs) h = (parts_times v h.0, fields_times fs h.1)

pub stored_times : (v : Val) → IsStored v → HasTimesInRange v
stored_times v h = parts_times v h.parts

-- a value that was read
pub read_stored : (table : Table) (bytes : List ℕ) (v : Val) (rest : List ℕ) → cell_to table 128 bytes ≡ Some (v, rest) → IsStored v
read_stored table bytes v rest e =
    let r = reads_to table 128 0 (omega arith) in
    let c = r.takes bytes v rest e in
    cell_stored table v c.0 c.2
