-- The number of a name in a block's symbol table, whose texts rise.
use Rattle.std.proofs.Common.{◌≡◌, ◌≢◌, ℕ, suc, ◌-◌, ◌<◌, ◌≤◌, Bool, true, false, cond, List, [], ◌∷◌, length, Option, Some, None, nat_eq, ltb, refl, sym, ap, ◌∙◌, arith}
use Rattle.std.specs.Prelude.{unwrap_or}
use Rattle.std.specs.Cmp.Lexicographic.{pointwise, same_text, other_text}
use Rattle.std.proofs.lemmas.Bool.Decides.{nat_tests}
use Rattle.std.proofs.lemmas.Cmp.{nat_list_cmp_total, tied_itself}
use Rattle.value_meaning.specs.Val.{Val, Fields, no_fields, field, pairs}
use Rattle.value_meaning.specs.Pairs.{value_of, IsBelow}
use Rattle.block_meaning.specs.Tables.{Table, text_of, TextsRise}
use Rattle.block_meaning.specs.Cells.{ArePairs}
use Rattle.block_meaning.specs.CellReading.{cell_to, pairs_by}
use Rattle.block_meaning.proofs.NestedReading.{reads_to, pairs_take}
use Rattle.block_meaning.proofs.Symbols.{text_of_some, text_of_is, text_of_range}
use Rattle.ion_cells.specs.declared.iterators.Fields.{Fields as Left}
use Rattle.ion_cells.specs.Standing.{HasLast}
use Rattle.ion_cells.specs.Left.{pairs_of, pairs_read, name_of}
use Rattle.ion_cells.specs.Iterating.{fields_last, fields_low, pairs_left}
use Rattle.ion_symtab.proofs.Lookups.{rising}
use Rattle.ion_cells.specs.Finding.{IsLabelOf}

-- in a table whose texts rise a text has one number
below_itself : (s : List ℕ) → IsBelow s s → ⊥
below_itself s h = let same = tied_itself nat_list_cmp_total s in cc

no_later : (table : Table) (k n : ℕ) (s : List ℕ) → TextsRise table → text_of table k ≡ Some s → text_of table n ≡ Some s → k < n → ⊥
no_later table k n s rise e f less =
    let a = text_of_is table k s [] e in
    let b = text_of_is table n s [] f in
    let r = text_of_range table k s e in
    let below = rising table (k - 10) (n - 10) [] rise (omega arith) b.0 in
    let same : IsBelow s s = rw (a.1, b.1) at below in
    below_itself s same

one_number : (table : Table) (k n : ℕ) (s : List ℕ) → TextsRise table → text_of table k ≡ Some s → text_of table n ≡ Some s → k ≡ n
one_number table k n s rise e f = go (ltb k n) (ltb n k) refl refl
  where
    go : (b c : Bool) → ltb k n ≡ b → ltb n k ≡ c → k ≡ n
    go true c g h = absurd (no_later table k n s rise e f (grind (arith, nat_tests)))
    go false true g h = absurd (no_later table n k s rise f e (grind (arith, nat_tests)))
    go false false g h = grind (arith, nat_tests)

pub label_found : (table : Table) (name : List ℕ) (n : ℕ) → TextsRise table → text_of table n ≡ Some name → IsLabelOf table name n
label_found table name n rise found = record { only = λ k e. one_number table k n name rise e found; is = λ h. found }
