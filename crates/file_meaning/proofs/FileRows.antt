-- The rows of a file's undamaged blocks: there is one list of them, and no other.
use Rattle.std.proofs.Common.{◌≡◌, ℕ, List, [], ◌∷◌, ◌++◌, length, Bool, true, false, eqb, Option, Some, None, refl, sym, ap, ◌∙◌, arith, inl, inr}
use Rattle.std.specs.Prelude.{◌≢◌}
use Rattle.std.proofs.lemmas.Bool.Decides.{nat_tests}
use Rattle.value_meaning.specs.Val.{Val}
use Rattle.block_meaning.specs.Tables.{Table}
use Rattle.block_meaning.specs.Blocks.{block_in}
use Rattle.block_meaning.proofs.BlockReading.{blocks_read, one_list, damaged_none, damaged_count}
use Rattle.file_meaning.specs.Files.{Entry, bytes_at, AreEntryRows, AreFileRows}
use Rattle.file_meaning.specs.Laws.{OneListOfFileRows}

entry_rows : (e : Entry) (bytes : List ℕ) → (rows : List Val) × AreEntryRows e bytes rows
entry_rows e bytes = go (block_in (bytes_at e bytes)) refl
  where
    counted : (b : Table × List Val) (t : Bool) → block_in (bytes_at e bytes) ≡ Some b → eqb (length b.1) e.rows ≡ t → (rows : List Val) × AreEntryRows e bytes rows
    counted b true read same =
        let count : length b.1 ≡ e.rows = grind (arith, nat_tests) in
        (b.1, inl (b.0, (blocks_read b.0 b.1 (bytes_at e bytes)).0 read, count))
    counted b false read other =
        let count : length b.1 ≢ e.rows = λ c. let no : true ≡ false = sym (grind (arith, nat_tests)) ∙ other in cc in
        ([], inr (damaged_count e.rows (bytes_at e bytes) b.0 b.1 read count, refl))

    go : (o : Option (Table × List Val)) → block_in (bytes_at e bytes) ≡ o → (rows : List Val) × AreEntryRows e bytes rows
    go None read = ([], inr (damaged_none e.rows (bytes_at e bytes) read, refl))
    go (Some b) read = counted b (eqb (length b.1) e.rows) read refl

one_entry_rows : (e : Entry) (bytes : List ℕ) (rows others : List Val) → AreEntryRows e bytes rows → AreEntryRows e bytes others → others ≡ rows
one_entry_rows e bytes rows others (inl g) (inl h) = (one_list h.0 g.0 others rows (bytes_at e bytes) h.1 g.1).1
one_entry_rows e bytes rows others (inl g) (inr h) = absurd (h.0 g.0 rows g.2 g.1)
one_entry_rows e bytes rows others (inr g) (inl h) = absurd (g.0 h.0 others h.2 h.1)
one_entry_rows e bytes rows others (inr g) (inr h) = h.1 ∙ sym g.1

pub file_rows : (es : List Entry) (bytes : List ℕ) → (rows : List Val) × AreFileRows es bytes rows
file_rows [] bytes = ([], refl)
file_rows (e ∷ es) bytes =
    let first = entry_rows e bytes in
    let others = file_rows es bytes in
    (first.0 ++ others.0, (first.0, others.0, refl, first.1, others.1))

pub one_file_rows : (es : List Entry) (bytes : List ℕ) (rows others : List Val) → AreFileRows es bytes rows → AreFileRows es bytes others → others ≡ rows
one_file_rows [] bytes rows others g h = h ∙ sym g
one_file_rows (e ∷ es) bytes rows others g h =
    let first = one_entry_rows e bytes g.0 h.0 g.3 h.3 in
    let rest = one_file_rows es bytes g.1 h.1 g.4 h.4 in
    h.2 ∙ ap (λ (l : List Val). l ++ h.1) first ∙ ap (λ (l : List Val). g.0 ++ l) rest ∙ sym g.2

pub one_list_of_rows : OneListOfFileRows
one_list_of_rows es bytes =
    let all = file_rows es bytes in
    (all.0, all.1, λ others h. one_file_rows es bytes all.0 others all.1 h)
