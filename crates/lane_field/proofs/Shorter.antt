-- A cell under a table that is filled up with one long text is one under the table alone, where its value has no text so long.
use Rattle.std.proofs.Common.{◌≡◌, ℕ, zero, suc, ◌<◌, ◌≤◌, pos, negsuc, List, [], ◌∷◌, ◌++◌, length, Some, eqb, ap, inl, inr, arith}
use Rattle.std.specs.Prelude.{replicate}
use Rattle.value_meaning.specs.Val.{Val, Vals, Fields, missing, null, truth, int, time, text, list, struct, no_vals, val, no_fields, field}
use Rattle.block_meaning.specs.Tables.{Table, text_from, text_of}
use Rattle.block_meaning.specs.Cells.{IsCell, AreCells, ArePairs}
use Rattle.block_meaning.proofs.Answered.{chosen, some_is}
use Rattle.lane_field.specs.Longest.{longest, vals_longest, fields_longest}
use Rattle.lane_field.proofs.Longer.{here_or}

filler_is : (k first n : ℕ) (filler s : List ℕ) → text_from first (replicate k filler) n ≡ Some s → filler ≡ s
filler_is zero first n filler s e = absurd cc
filler_is (suc k) first n filler s e =
    elim (chosen (eqb n first) _ _ _ e) [
      | inl a ↦ some_is filler s a.1
      | inr a ↦ filler_is k (suc first) n filler s a.1
    ]

shorter_from : (table : Table) (k first n : ℕ) (filler s : List ℕ) → length s < length filler → text_from first (table ++ replicate k filler) n ≡ Some s → text_from first table n ≡ Some s
shorter_from [] k first n filler s h e = absurd (omega (arith, ap length (filler_is k first n filler s e)))
shorter_from (t ∷ ts) k first n filler s h e = here_or (eqb n first) t s _ _ (λ g. shorter_from ts k (suc first) n filler s h g) e

pub shorter_text : (table : Table) (k n : ℕ) (filler s : List ℕ) → length s < length filler → text_of (table ++ replicate k filler) n ≡ Some s → text_of table n ≡ Some s
unfolding text_of
shorter_text table k n filler s h e = shorter_from table k 10 n filler s h e

mutual
  pub shorter_cell : (table : Table) (k : ℕ) (filler : List ℕ) (depth : ℕ) (v : Val) (bytes : List ℕ) → longest v ≤ length filler → IsCell (table ++ replicate k filler) depth v bytes → IsCell table depth v bytes
  shorter_cell table k filler depth missing bytes h c = c
  shorter_cell table k filler depth null bytes h c = c
  shorter_cell table k filler depth (truth b) bytes h c = c
  shorter_cell table k filler depth (int (pos n)) bytes h c = c
  shorter_cell table k filler depth (int (negsuc n)) bytes h c = c
  shorter_cell table k filler depth (time t) bytes h c = c
  shorter_cell table k filler depth (text s) bytes h c =
      elim c [
        | inl x ↦ inl (x.0, x.1, x.2, x.3, shorter_text table k x.1 filler s (omega arith) x.4)
        | inr x ↦ inr x
      ]
  shorter_cell table k filler depth (list vs) bytes h c = (c.0, c.1, c.2, shorter_cells table k filler (suc depth) vs c.0 h c.3)
  shorter_cell table k filler depth (struct fs) bytes h c = (c.0, c.1, c.2, shorter_pairs table k filler (suc depth) 10 fs c.0 h c.3)

  shorter_cells : (table : Table) (k : ℕ) (filler : List ℕ) (depth : ℕ) (vs : Vals) (bytes : List ℕ) → vals_longest vs ≤ length filler → AreCells (table ++ replicate k filler) depth vs bytes → AreCells table depth vs bytes
  shorter_cells table k filler depth no_vals bytes h c = c
  shorter_cells table k filler depth (val v vs) bytes h c =
      (c.0, c.1, c.2, shorter_cell table k filler depth v c.0 (omega arith) c.3, shorter_cells table k filler depth vs c.1 (omega arith) c.4)

  shorter_pairs : (table : Table) (k : ℕ) (filler : List ℕ) (depth low : ℕ) (fs : Fields) (bytes : List ℕ) → fields_longest fs ≤ length filler → ArePairs (table ++ replicate k filler) depth low fs bytes → ArePairs table depth low fs bytes
  shorter_pairs table k filler depth low no_fields bytes h c = c
  shorter_pairs table k filler depth low (field name v fs) bytes h c =
      (c.0, c.1, c.2, c.3, c.4, c.5, shorter_text table k c.0 filler name (omega arith) c.6, c.7, shorter_cell table k filler depth v c.2 (omega arith) c.8, shorter_pairs table k filler depth (suc c.0) fs c.3 (omega arith) c.9)
