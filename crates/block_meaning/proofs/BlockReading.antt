-- Reading a block answers exactly the table and the rows of which it is the block.
use Rattle.std.proofs.Common.{◌≡◌, ℕ, ◌≤◌, true, false, List, [], ◌∷◌, ◌++◌, length, Some, None, eqb, ltb, refl, sym, ap, ◌∙◌, arith, inl, inr}
use Rattle.std.specs.Prelude.{◌&&◌, ◌||◌, ◌≢◌}
use Rattle.std.proofs.lemmas.Bool.{ltb-false, le-ltb}
use Rattle.std.proofs.lemmas.Bool.Decides.{nat_tests}
use Rattle.value_meaning.specs.Val.{Val, Vals, vals, items, no_vals, val}
use Rattle.block_meaning.specs.declared.TheConstants.{MOST_BLOCK_BYTES, MOST_BLOCK_ROWS}
use Rattle.block_meaning.specs.Tables.{Table}
use Rattle.block_meaning.specs.Cells.{AreCells}
use Rattle.block_meaning.specs.CellReading.{cells_by, cell_to}
use Rattle.block_meaning.specs.Blocks.{marker, AreTexts, IsTable, is_struct, AreRows, IsBlock, IsDamaged, table_at, all_structs, as_rows, rows_in, behind_marker, block_in}
use Rattle.block_meaning.specs.Laws.{BlocksAreRead, OneListOfRows, RowsAreSound}
use Rattle.block_meaning.proofs.Answered.{chosen, some_is, none_is, then_is, map_is, and_true, or_false}
use Rattle.block_meaning.proofs.NestedReading.{reads_to, cells_take, cells_again}
use Rattle.block_meaning.proofs.TableReading.{tables_take, tables_again}
use Rattle.block_meaning.proofs.SoundCells.{AreUtf8, IsSoundTable, cells_sound}
use Rattle.block_meaning.proofs.StoredCells.{cells_stored}

pub vals-items : (vs : Vals) → vals (items vs) ≡ vs
vals-items no_vals = refl
vals-items (val v vs) = ap (val v) (vals-items vs)

pub items-vals : (vs : List Val) → items (vals vs) ≡ vs
items-vals [] = refl
items-vals (v ∷ vs) = ap (λ (ws : List Val). v ∷ ws) (items-vals vs)

rows_are : (vs : List Val) → all_structs vs ≡ true → AreRows vs
rows_are [] e = tt
rows_are (v ∷ vs) e = let p = and_true (is_struct v) (all_structs vs) e in (p.0, rows_are vs p.1)

rows_test : (vs : List Val) → AreRows vs → all_structs vs ≡ true
rows_test [] h = refl
rows_test (v ∷ vs) h = rw (h.0, rows_test vs h.1) refl

-- 1 to 65,536 structs
pub record AreBlockRows (rows : List Val) : Type 0 where
  pub some : 1 ≤ length rows
  pub few : length rows ≤ MOST_BLOCK_ROWS
  pub structs : AreRows rows

as_rows-takes : (vs rows : List Val) → as_rows vs ≡ Some rows → (vs ≡ rows) × AreBlockRows vs
as_rows-takes vs rows e =
    elim (chosen (eqb (length vs) 0 || ltb MOST_BLOCK_ROWS (length vs)) _ _ _ e) [
      | inl a ↦ absurd (none_is rows a.1)
      | inr a ↦ elim (chosen (all_structs vs) _ _ _ a.1) [
        | inl b ↦
            let tests = or_false (eqb (length vs) 0) (ltb MOST_BLOCK_ROWS (length vs)) a.0 in
            let some : 1 ≤ length vs = grind (arith, nat_tests, tests.0) in
            (some_is _ _ b.1, record { some = some; few = ltb-false _ _ tests.1; structs = rows_are vs b.0 })
        | inr b ↦ absurd (none_is rows b.1)
      ]
    ]

as_rows-again : (rows : List Val) → AreBlockRows rows → as_rows rows ≡ Some rows
as_rows-again rows h =
    let some = h.some in
    let a : eqb (length rows) 0 ≡ false = grind (arith, nat_tests) in
    let b : ltb MOST_BLOCK_ROWS (length rows) ≡ false = le-ltb _ _ h.few in
    rw (a, b, rows_test rows h.structs) refl

pub rows_take : (table : Table) (bytes : List ℕ) (rows : List Val) → rows_in table bytes ≡ Some rows → AreBlockRows rows × AreCells table 0 (vals rows) bytes
unfolding rows_in
rows_take table bytes rows e =
    let vs = then_is _ (cells_by (cell_to table 128) (length bytes) bytes) _ e in
    let r = as_rows-takes (items vs.0) rows vs.2 in
    let cells = cells_take table 0 (cell_to table 128) (reads_to table 128 0 refl) (length bytes) bytes vs.0 vs.1 in
    let same : vs.0 ≡ vals rows = sym (vals-items vs.0) ∙ ap vals r.0 in
    (rw r.0 at r.1, rw same at cells)

pub rows_again : (table : Table) (bytes : List ℕ) (rows : List Val) → AreBlockRows rows → AreCells table 0 (vals rows) bytes → rows_in table bytes ≡ Some rows
unfolding rows_in
rows_again table bytes rows h c =
    rw (cells_again table 0 (cell_to table 128) (reads_to table 128 0 refl) (length bytes) (vals rows) bytes (omega arith) c, items-vals rows) (as_rows-again rows h)

pub marker_takes : (bytes rest : List ℕ) → behind_marker bytes ≡ Some rest → bytes ≡ marker ++ rest
marker_takes [] rest e = absurd (none_is rest e)
marker_takes (a ∷ []) rest e = absurd (none_is rest e)
marker_takes (a ∷ b ∷ []) rest e = absurd (none_is rest e)
marker_takes (a ∷ b ∷ c ∷ []) rest e = absurd (none_is rest e)
marker_takes (a ∷ b ∷ c ∷ d ∷ bytes) rest e =
    elim (chosen (eqb a 224 && eqb b 1 && eqb c 0 && eqb d 234) _ _ _ e) [
      | inl t ↦
          let p = and_true (eqb a 224 && eqb b 1 && eqb c 0) (eqb d 234) t.0 in
          let q = and_true (eqb a 224 && eqb b 1) (eqb c 0) p.0 in
          let r = and_true (eqb a 224) (eqb b 1) q.0 in
          let at = some_is _ _ t.1 in
          λ i. is_same a 224 r.0 i ∷ is_same b 1 r.1 i ∷ is_same c 0 q.1 i ∷ is_same d 234 p.1 i ∷ at i
      | inr t ↦ absurd (none_is rest t.1)
    ]
  where
    is_same : (n k : ℕ) → eqb n k ≡ true → n ≡ k
    is_same n k e = grind (arith, nat_tests)

blocks_take : (table : Table) (rows : List Val) (bytes : List ℕ) → block_in bytes ≡ Some (table, rows) → IsBlock table rows bytes
unfolding block_in
blocks_take table rows bytes e =
    elim (chosen (ltb MOST_BLOCK_BYTES (length bytes)) _ _ _ e) [
      | inl a ↦ absurd (none_is _ a.1)
      | inr a ↦
          let rest = then_is _ (behind_marker bytes) _ a.1 in
          let t = then_is _ (table_at rest.0) _ rest.2 in
          let m = map_is (λ (rs : List Val). ((t.0).0, rs)) (rows_in (t.0).0 (t.0).1) _ t.2 in
          let t-is : (t.0).0 ≡ table = ap (λ (q : Table × List Val). q.0) m.2 in
          let rows-is : m.0 ≡ rows = ap (λ (q : Table × List Val). q.1) m.2 in
          found table rows bytes rest.0 (t.0).0 (t.0).1 m.0 (ltb-false _ _ a.0) (marker_takes bytes rest.0 rest.1) t.1 m.1 t-is rows-is
    ]
  where
    found : (table : Table) (rows : List Val) (bytes rest : List ℕ) (u : Table) (row_bytes : List ℕ) (others : List Val) → length bytes ≤ MOST_BLOCK_BYTES → bytes ≡ marker ++ rest → table_at rest ≡ Some (u, row_bytes) → rows_in u row_bytes ≡ Some others → u ≡ table → others ≡ rows → IsBlock table rows bytes
    found table rows bytes rest u row_bytes others short parts t r e f =
        let c = tables_take u rest row_bytes t in
        let h = rows_take u row_bytes others r in
        let block : IsBlock u others bytes = record { short = short; some = h.0.some; few = h.0.few; structs = h.0.structs; table_bytes = c.0; row_bytes = row_bytes; parts = parts ∙ ap (λ (z : List ℕ). marker ++ z) c.1; is_table = c.2; cells = h.1 } in
        rw (e, f) at block

blocks_again : (table : Table) (rows : List Val) (bytes : List ℕ) → IsBlock table rows bytes → block_in bytes ≡ Some (table, rows)
unfolding block_in
blocks_again table rows bytes h =
    let short : ltb MOST_BLOCK_BYTES (length bytes) ≡ false = le-ltb _ _ h.short in
    let behind : behind_marker bytes ≡ Some (h.table_bytes ++ h.row_bytes) = rw h.parts refl in
    let made : AreBlockRows rows = record { some = h.some; few = h.few; structs = h.structs } in
    rw (short, behind, tables_again table h.table_bytes h.row_bytes h.is_table, rows_again table h.row_bytes rows made h.cells) refl

pub blocks_read : BlocksAreRead
blocks_read table rows bytes = (λ e. blocks_take table rows bytes e, λ h. blocks_again table rows bytes h)

pub one_list : OneListOfRows
one_list t u rows others bytes g h =
    let same = some_is _ _ (sym (blocks_again t rows bytes g) ∙ blocks_again u others bytes h) in
    (ap (λ (q : Table × List Val). q.0) same, ap (λ (q : Table × List Val). q.1) same)

-- the table of a block is sound

texts_utf8 : (ts : Table) (bytes : List ℕ) → AreTexts ts bytes → AreUtf8 ts
texts_utf8 [] bytes h = tt
texts_utf8 (t ∷ ts) bytes h = (h.4, texts_utf8 ts h.1 h.5)

pub table_sound : (table : Table) (bytes : List ℕ) → IsTable table bytes → IsSoundTable table
table_sound table bytes h = record { utf8 = texts_utf8 table h.texts h.stand; rise = h.rise }

pub rows_sound : RowsAreSound
rows_sound table rows bytes h =
    (cells_sound table (table_sound table h.table_bytes h.is_table) (vals rows) 0 h.row_bytes h.cells, cells_stored table rows h.row_bytes h.cells)

-- bytes that are read as no block, or as one of another count, are damaged for the count

pub damaged_none : (n : ℕ) (bytes : List ℕ) → block_in bytes ≡ None → IsDamaged n bytes
damaged_none n bytes e table rows count h = none_is _ (sym e ∙ blocks_again table rows bytes h)

pub damaged_count : (n : ℕ) (bytes : List ℕ) (table : Table) (rows : List Val) → block_in bytes ≡ Some (table, rows) → length rows ≢ n → IsDamaged n bytes
damaged_count n bytes table rows e apart other others count h =
    let same = (one_list table other rows others bytes (blocks_take table rows bytes e) h).1 in
    apart (ap length same ∙ count)
