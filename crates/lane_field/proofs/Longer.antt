-- A cell under a table is one under each longer table, of the same value.
use Rattle.std.proofs.Common.{◌≡◌, ℕ, suc, pos, negsuc, Bool, true, false, cond, List, [], ◌∷◌, ◌++◌, Option, Some, eqb, ap, inl, inr}
use Rattle.value_meaning.specs.Val.{Val, Vals, Fields, missing, null, truth, int, time, text, list, struct, no_vals, val, no_fields, field}
use Rattle.block_meaning.specs.Tables.{Table, text_from, text_of}
use Rattle.block_meaning.specs.Cells.{IsCell, AreCells, ArePairs}
use Rattle.block_meaning.specs.CellReading.{cell_to, is_cell, cell_value, ends_there, value_read}
use Rattle.block_meaning.specs.Laws.{HasFront}
use Rattle.block_meaning.proofs.NestedReading.{cells_read}
use Rattle.block_meaning.proofs.CellSteps.{is_cell_reads}

pub here_or : (c : Bool) (t s : List ℕ) (o q : Option (List ℕ)) → (o ≡ Some s → q ≡ Some s) → cond c (Some t) o ≡ Some s → cond c (Some t) q ≡ Some s
here_or true t s o q f e = e
here_or false t s o q f e = f e

longer_from : (table more : Table) (first n : ℕ) (s : List ℕ) → text_from first table n ≡ Some s → text_from first (table ++ more) n ≡ Some s
longer_from [] more first n s e = absurd cc
longer_from (t ∷ ts) more first n s e = here_or (eqb n first) t s _ _ (λ h. longer_from ts more (suc first) n s h) e

pub longer_text : (table more : Table) (n : ℕ) (s : List ℕ) → text_of table n ≡ Some s → text_of (table ++ more) n ≡ Some s
unfolding text_of
longer_text table more n s e = longer_from table more 10 n s e

mutual
  longer_cell : (table more : Table) (depth : ℕ) (v : Val) (bytes : List ℕ) → IsCell table depth v bytes → IsCell (table ++ more) depth v bytes
  longer_cell table more depth missing bytes c = c
  longer_cell table more depth null bytes c = c
  longer_cell table more depth (truth b) bytes c = c
  longer_cell table more depth (int (pos n)) bytes c = c
  longer_cell table more depth (int (negsuc n)) bytes c = c
  longer_cell table more depth (time t) bytes c = c
  longer_cell table more depth (text s) bytes c =
      elim c [
        | inl x ↦ inl (x.0, x.1, x.2, x.3, longer_text table more x.1 s x.4)
        | inr x ↦ inr x
      ]
  longer_cell table more depth (list vs) bytes c = (c.0, c.1, c.2, longer_cells table more (suc depth) vs c.0 c.3)
  longer_cell table more depth (struct fs) bytes c = (c.0, c.1, c.2, longer_pairs table more (suc depth) 10 fs c.0 c.3)

  longer_cells : (table more : Table) (depth : ℕ) (vs : Vals) (bytes : List ℕ) → AreCells table depth vs bytes → AreCells (table ++ more) depth vs bytes
  longer_cells table more depth no_vals bytes c = c
  longer_cells table more depth (val v vs) bytes c =
      (c.0, c.1, c.2, longer_cell table more depth v c.0 c.3, longer_cells table more depth vs c.1 c.4)

  longer_pairs : (table more : Table) (depth low : ℕ) (fs : Fields) (bytes : List ℕ) → ArePairs table depth low fs bytes → ArePairs (table ++ more) depth low fs bytes
  longer_pairs table more depth low no_fields bytes c = c
  longer_pairs table more depth low (field name v fs) bytes c =
      (c.0, c.1, c.2, c.3, c.4, c.5, longer_text table more c.0 name c.6, c.7, longer_cell table more depth v c.2 c.8, longer_pairs table more depth (suc c.0) fs c.3 c.9)

abbrev pub alone : Val → Option (Val × List ℕ)
alone v = Some (v, [])

pub read_alone : (table : Table) (bytes : List ℕ) (v : Val) → cell_to table 128 bytes ≡ alone v → (is_cell table bytes ≡ true) × (cell_value table bytes ≡ v)
unfolding is_cell cell_value
read_alone table bytes v e = (ap ends_there e, ap value_read e)

pub longer_is : (table more : Table) (bytes : List ℕ) → is_cell table bytes ≡ true → (is_cell (table ++ more) bytes ≡ true) × (cell_value (table ++ more) bytes ≡ cell_value table bytes)
longer_is table more bytes h =
    let v = cell_value table bytes in
    let front = (cells_read table 0 v bytes []).0 (is_cell_reads table bytes h) in
    let longer : HasFront (IsCell (table ++ more) 0 v) bytes [] = (front.0, front.1, longer_cell table more 0 v front.0 front.2) in
    read_alone (table ++ more) bytes v ((cells_read (table ++ more) 0 v bytes []).1 longer)
