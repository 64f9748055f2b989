-- The rows of a chunk, and the bits of its lanes.
use Rattle.std.proofs.Common.{◌≡◌, ℕ, zero, suc, ◌*◌, ◌-◌, ◌%◌, ◌^◌, ◌<◌, ◌≤◌, List, [], ◌∷◌, length, map, take, drop, min, Some, refl, sym, ap, ◌∙◌, arith}
use Rattle.std.specs.Prelude.{slice_get, slice_index_or}
use Rattle.std.proofs.Math.Pow.{pow-lt}
use Rattle.std.proofs.Math.Nat.{mod-eq_of_lt}
use Rattle.std.proofs.lemmas.List.{length-map, length-take-le, take_min, length-drop}
use Rattle.block_meaning.specs.Tables.{Table}
use Rattle.block_meaning.specs.Cells.{IsCell}
use Rattle.ion_cells.specs.declared.cell.Cell.{Cell}
use Rattle.ion_cells.specs.Shown.{Fits, shown, cell_bytes, cell_last}
use Rattle.ion_cells.proofs.Stands.{legal_stands}
use Rattle.block_file.specs.Rows.{AreRowCells}
use Rattle.block_file.specs.Chunks.{AreCellsOf}

-- a borrowed cell is one
cell_is : (table : Table) (c : Cell) → Fits table c → IsCell table 0 (shown table c) (cell_bytes c)
unfolding shown cell_bytes cell_last
cell_is table c fits = legal_stands table c.last c.bytes.now c.legal fits

cells_at : (table : Table) (n first : ℕ) (rows : List Cell) → AreRowCells table rows → AreCellsOf table (take n (drop first (map (shown table) rows))) (map cell_bytes (take n (drop first rows)))
cells_at table zero zero [] h = tt
cells_at table zero zero (c ∷ rows) h = tt
cells_at table zero (suc first) [] h = tt
cells_at table zero (suc first) (c ∷ rows) h = cells_at table zero first rows h.1
cells_at table (suc n) zero [] h = tt
cells_at table (suc n) zero (c ∷ rows) h = (cell_is table c h.0.0, cells_at table n zero rows h.1)
cells_at table (suc n) (suc first) [] h = tt
cells_at table (suc n) (suc first) (c ∷ rows) h = cells_at table (suc n) first rows h.1

-- the lanes hold the rows from a place on
pub lanes_hold : (table : Table) (rows lanes piece : List Cell) (first count : ℕ) (bytes : List (List ℕ)) → AreRowCells table rows → count ≡ min (length rows - first) 16 → piece ≡ take count (drop first rows) → take (length piece) lanes ≡ piece → length piece ≡ count → bytes ≡ map cell_bytes (take count lanes) → AreCellsOf table (take 16 (drop first (map (shown table) rows))) bytes
lanes_hold table rows lanes piece first count bytes h counted cut held long e =
    let here : take count lanes ≡ take count (drop first rows) = ap (λ (n : ℕ). take n lanes) (sym long) ∙ held ∙ cut in
    let fewer : count ≡ min 16 (length (drop first rows)) = omega (arith, counted, length-drop first rows) in
    let same : take count (drop first rows) ≡ take 16 (drop first rows) = ap (λ (n : ℕ). take n (drop first rows)) fewer ∙ take_min 16 (drop first rows) in
    rw (e, here, same) (cells_at table 16 first rows h)

pub lanes_long : (rows : List Cell) (count : ℕ) → length rows ≡ 16 → count ≤ 16 → length (map cell_bytes (take count rows)) ≡ count
lanes_long rows count long few = length-map (take count rows) cell_bytes ∙ length-take-le count rows (omega arith)

pub lane_bits : (n : ℕ) → n < 16 → 1 * 2 ^ n % 65536 - 1 ≡ 2 ^ n - 1
lane_bits n h =
    let small : 2 ^ n < 65536 = pow-lt h in
    let one : 1 * 2 ^ n ≡ 2 ^ n = omega arith in
    rw (one, mod-eq_of_lt small) refl

-- the row in a lane
lane_got : (rows : List Cell) (count lane : ℕ) (c : Cell) → lane < count → count ≤ length rows → c ≡ slice_index_or rows lane c → slice_get (map cell_bytes (take count rows)) lane ≡ Some (cell_bytes c)
lane_got [] count lane c h k is = absurd (omega arith)
lane_got (d ∷ rows) zero lane c h k is = absurd (omega arith)
lane_got (d ∷ rows) (suc count) zero c h k is = rw is refl
lane_got (d ∷ rows) (suc count) (suc lane) c h k is = lane_got rows count lane c (omega arith) (omega arith) is

pub lane_shows : (rows : List Cell) (count lane : ℕ) (c : Cell) (bytes : List ℕ) (all : List (List ℕ)) → map cell_bytes (take count rows) ≡ all → lane < length all → length rows ≡ 16 → count ≤ 16 → c ≡ slice_index_or rows lane c → bytes ≡ cell_bytes c → slice_get all lane ≡ Some bytes
lane_shows rows count lane c bytes all view h long few is e =
    let within : lane < count = omega (arith, ap length view, lanes_long rows count long few) in
    let got = lane_got rows count lane c within (omega arith) is in
    ap (λ (bs : List (List ℕ)). slice_get bs lane) (sym view) ∙ got ∙ ap Some (sym e)
