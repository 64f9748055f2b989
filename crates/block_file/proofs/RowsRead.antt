-- Rows of a block, read one after the other.
use Rattle.std.proofs.Common.{◌≡◌, ◌≢◌, ℕ, suc, ◌+◌, ◌<◌, ◌≤◌, Bool, true, false, List, [], ◌∷◌, ◌++◌, length, map, drop, Option, Some, None, eqb, ltb, refl, sym, ap, subst, ◌∙◌, arith}
use Rattle.std.specs.Option.{option_map}
use Rattle.std.specs.Prelude.{◌||◌}
use Rattle.std.proofs.lemmas.List.{append-nil, map-append, length-map}
use Rattle.std.proofs.lemmas.Bool.{le-ltb}
use Rattle.std.proofs.lemmas.Bool.Decides.{nat_tests}
use Rattle.value_meaning.specs.Val.{Val, Vals, no_vals, val, items}
use Rattle.block_meaning.specs.declared.TheConstants.{MOST_BLOCK_ROWS}
use Rattle.block_meaning.specs.Tables.{Table}
use Rattle.block_meaning.specs.CellReading.{cells_by, cell_to}
use Rattle.block_meaning.specs.Blocks.{is_struct, all_structs, as_rows, rows_in}
use Rattle.block_meaning.proofs.Answered.{chosen, some_is, none_is, then_is, map_is, and_true}
use Rattle.block_meaning.proofs.CellSteps.{cell_shrinks, cells_next}
use Rattle.ion_cells.specs.declared.cell.Cell.{Cell}
use Rattle.ion_cells.specs.Shown.{shown}
use Rattle.block_file.specs.Rows.{AreRowCells, IsRowAt, NoRowAt, AreRowsOf, NoRowsOf}

-- the values before these
abbrev prepend : List Val → Vals → Vals
prepend [] us = us
prepend (v ∷ vs) us = val v (prepend vs us)

prepend_one : (vs : List Val) (v : Val) (us : Vals) → prepend vs (val v us) ≡ prepend (vs ++ v ∷ []) us
prepend_one [] v us = refl
prepend_one (w ∷ vs) v us = ap (val w) (prepend_one vs v us)

items_prepend : (vs : List Val) (us : Vals) → items (prepend vs us) ≡ vs ++ items us
items_prepend [] us = refl
items_prepend (v ∷ vs) us = ap (λ (ws : List Val). v ∷ ws) (items_prepend vs us)

abbrev all_cells : Table → List ℕ → Option Vals
all_cells table bytes = cells_by (cell_to table 128) (length bytes) bytes

-- these cells are the first of the bytes, and this is what follows them
pub record Walked (table : Table) (bytes : List ℕ) (cells : List Cell) (rest : List ℕ) : Type 0 where
  pub reads : all_cells table bytes ≡ option_map (prepend (map (shown table) cells)) (all_cells table rest)
  pub rows : AreRowCells table cells

same_map : (o : Option Vals) → option_map (prepend []) o ≡ o
same_map None = refl
same_map (Some us) = refl

pub walk_none : (table : Table) (bytes : List ℕ) → Walked table bytes [] bytes
walk_none table bytes = record { reads = sym (same_map (all_cells table bytes)); rows = tt }

-- one more

rows_more : (table : Table) (cells : List Cell) (c : Cell) → AreRowCells table cells → Rattle.ion_cells.specs.Shown.Fits table c → is_struct (shown table c) ≡ true → AreRowCells table (cells ++ c ∷ [])
rows_more table [] c h f s = ((f, s), tt)
rows_more table (d ∷ cells) c h f s = (h.0, rows_more table cells c h.1 f s)

then_map : (vs : List Val) (v : Val) (o : Option Vals) → option_map (prepend vs) (option_map (val v) o) ≡ option_map (prepend (vs ++ v ∷ [])) o
then_map vs v None = refl
then_map vs v (Some us) = ap Some (prepend_one vs v us)

first_cell : (table : Table) (bytes rest : List ℕ) (v : Val) → cell_to table 128 bytes ≡ Some (v, rest) → all_cells table bytes ≡ option_map (val v) (all_cells table rest)
first_cell table bytes rest v e = cells_next (cell_to table 128) (cell_shrinks table 128) (length bytes) (length rest) bytes (v, rest) e (omega arith) (omega arith)

pub walk_row : (table : Table) (whole : List ℕ) (cells next : List Cell) (bytes : List ℕ) (at : ℕ) (c : Cell) → Walked table whole cells (drop at bytes) → IsRowAt table bytes at c → next ≡ cells ++ c ∷ [] → Walked table whole next (drop (at + length (Rattle.ion_cells.specs.Shown.cell_bytes c)) bytes)
walk_row table whole cells next bytes at c w r e =
    let after = drop (at + length (Rattle.ion_cells.specs.Shown.cell_bytes c)) bytes in
    let step = w.reads ∙ ap (option_map (prepend (map (shown table) cells))) (first_cell table (drop at bytes) after (shown table c) r.reads) ∙ then_map (map (shown table) cells) (shown table c) (all_cells table after) in
    let same : map (shown table) (cells ++ c ∷ []) ≡ map (shown table) cells ++ shown table c ∷ [] = map-append (shown table) cells (c ∷ []) in
    let walked : Walked table whole (cells ++ c ∷ []) after = record { reads = rw same step; rows = rows_more table cells c w.rows r.fits r.is_struct } in
    rw e walked

-- the end

structs_all : (table : Table) (cells : List Cell) → AreRowCells table cells → all_structs (map (shown table) cells) ≡ true
structs_all table [] h = refl
structs_all table (c ∷ cells) h = rw (h.0.1, structs_all table cells h.1) refl

as_rows_are : (vs : List Val) → 1 ≤ length vs → length vs ≤ MOST_BLOCK_ROWS → all_structs vs ≡ true → as_rows vs ≡ Some vs
as_rows_are vs some few all =
    let a : eqb (length vs) 0 ≡ false = grind (arith, nat_tests) in
    let b : ltb MOST_BLOCK_ROWS (length vs) ≡ false = le-ltb _ _ few in
    rw (a, b, all) refl

no_cells_left : (table : Table) (rest : List ℕ) → length rest ≡ 0 → all_cells table rest ≡ Some no_vals
no_cells_left table [] e = refl
no_cells_left table (b ∷ bs) e = absurd (omega arith)

pub walk_end : (table : Table) (bytes : List ℕ) (cells : List Cell) (rest : List ℕ) (count : ℕ) → Walked table bytes cells rest → length rest ≡ 0 → length cells ≡ count → 1 ≤ count → count ≤ MOST_BLOCK_ROWS → AreRowsOf table bytes count cells
unfolding rows_in
walk_end table bytes cells rest count w e n some few =
    let vs = map (shown table) cells in
    let all : all_cells table bytes ≡ Some (prepend vs no_vals) = w.reads ∙ ap (option_map (prepend vs)) (no_cells_left table rest e) in
    let listed : items (prepend vs no_vals) ≡ vs = items_prepend vs no_vals ∙ append-nil vs in
    let long : length vs ≡ count = length-map cells (shown table) ∙ n in
    let taken = as_rows_are vs (omega arith) (omega arith) (structs_all table cells w.rows) in
    record { reads = rw (all, listed) taken; rows = w.rows; long = n }

-- what rows show

shown_after : (vs ws : List Val) → all_structs (vs ++ ws) ≡ true → all_structs ws ≡ true
shown_after [] ws e = e
shown_after (v ∷ vs) ws e = shown_after vs ws (and_true (is_struct v) (all_structs (vs ++ ws)) e).1

as_rows_is : (vs rows : List Val) → as_rows vs ≡ Some rows → (vs ≡ rows) × (all_structs vs ≡ true)
as_rows_is vs rows e =
    elim (chosen (eqb (length vs) 0 || ltb MOST_BLOCK_ROWS (length vs)) _ _ _ e) [
      | Rattle.std.proofs.Common.inl a ↦ absurd (none_is rows a.1)
      | Rattle.std.proofs.Common.inr a ↦ elim (chosen (all_structs vs) _ _ _ a.1) [
        | Rattle.std.proofs.Common.inl b ↦ (some_is _ _ b.1, b.0)
        | Rattle.std.proofs.Common.inr b ↦ absurd (none_is rows b.1)
      ]
    ]

-- the rows are these values and those that are left
record Split (table : Table) (bytes : List ℕ) (shown : List Val) (rest : List ℕ) (rows : List Val) : Type 0 where
  left : Vals
  reads : all_cells table rest ≡ Some left
  parts : rows ≡ shown ++ items left
  structs : all_structs (items left) ≡ true

split : (table : Table) (bytes : List ℕ) (cells : List Cell) (rest : List ℕ) (rows : List Val) → Walked table bytes cells rest → rows_in table bytes ≡ Some rows → Split table bytes (map (shown table) cells) rest rows
unfolding rows_in
split table bytes cells rest rows w e =
    let vs = map (shown table) cells in
    let all = then_is _ (all_cells table bytes) _ e in
    let left = map_is (prepend vs) (all_cells table rest) all.0 (sym w.reads ∙ all.1) in
    let are = as_rows_is (items all.0) rows all.2 in
    let parts : items all.0 ≡ vs ++ items left.0 = ap items (sym left.2) ∙ items_prepend vs left.0 in
    record { left = left.0; reads = left.1; parts = sym are.0 ∙ parts; structs = shown_after vs (items left.0) (ap all_structs (sym parts) ∙ are.1) }

no_more : (table : Table) (rest : List ℕ) (left : Vals) → all_cells table rest ≡ Some left → length (items left) ≡ 0 → length rest ≡ 0
no_more table [] left e n = refl
no_more table (b ∷ bs) no_vals e n =
    let x = then_is _ (cell_to table 128 (b ∷ bs)) _ e in
    let y = map_is (val (x.0).0) _ no_vals x.2 in
    absurd cc
no_more table (b ∷ bs) (val v vs) e n = absurd (omega arith)

-- no row begins behind the rows so far, and more were wanted
pub walk_stop : (table : Table) (whole : List ℕ) (cells : List Cell) (bytes : List ℕ) (at count : ℕ) → Walked table whole cells (drop at bytes) → NoRowAt table bytes at → length cells < count → NoRowsOf table whole count
walk_stop table whole cells bytes at count w none h rows e n =
    let s = split table whole cells (drop at bytes) rows w e in
    let long = length-map cells (shown table) in
    go (drop at bytes) s.left s.reads s.structs (omega (arith, ap length s.parts, Rattle.std.proofs.lemmas.List.length-append (map (shown table) cells) (items s.left))) none
  where
    go : (rest : List ℕ) (left : Vals) → all_cells table rest ≡ Some left → all_structs (items left) ≡ true → 0 < length (items left) → ((v : Val) (after : List ℕ) → cell_to table 128 rest ≡ Some (v, after) → is_struct v ≡ true → ⊥) → ⊥
    go [] left e s some none = let same : no_vals ≡ left = some_is _ _ e in let P : Vals → Type 0 = λ us. 0 < length (items us) in let k : 0 < 0 = subst P (sym same) some in omega arith
    go (b ∷ bs) left e s some none =
        let x = then_is _ (cell_to table 128 (b ∷ bs)) _ e in
        let y = map_is (val (x.0).0) _ left x.2 in
        let t : all_structs (items (val (x.0).0 y.0)) ≡ true = ap (λ (us : Vals). all_structs (items us)) y.2 ∙ s in
        none (x.0).0 (x.0).1 x.1 (and_true (is_struct (x.0).0) (all_structs (items y.0)) t).0

-- all rows stand, and bytes are left
pub walk_over : (table : Table) (whole : List ℕ) (cells : List Cell) (rest : List ℕ) (count : ℕ) → Walked table whole cells rest → length cells ≡ count → 0 < length rest → NoRowsOf table whole count
walk_over table whole cells rest count w e h rows r n =
    let s = split table whole cells rest rows w r in
    let none : length (items s.left) ≡ 0 = omega (arith, ap length s.parts, Rattle.std.proofs.lemmas.List.length-append (map (shown table) cells) (items s.left), length-map cells (shown table)) in
    let empty = no_more table rest s.left s.reads none in
    omega arith
