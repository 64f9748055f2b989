-- The pair of a label, among pairs whose labels rise.
use Rattle.std.proofs.Common.{◌≡◌, ◌≢◌, ℕ, suc, ◌-◌, ◌+◌, ◌<◌, ◌≤◌, Bool, true, false, cond, List, [], ◌∷◌, ◌++◌, length, take, drop, length-drop, Option, Some, None, nat_eq, refl, sym, ap, ◌∙◌, arith}
use Rattle.std.specs.Prelude.{unwrap_or}
use Rattle.std.specs.Option.{option_map, option_and_then}
use Rattle.std.specs.Cmp.Lexicographic.{pointwise, same_text, other_text}
use Rattle.std.proofs.lemmas.List.{drop-drop, append_assoc}
use Rattle.value_meaning.specs.Val.{Val, Fields, no_fields, field, pairs}
use Rattle.value_meaning.specs.Pairs.{value_of}
use Rattle.block_meaning.specs.Numbers.{var_uint}
use Rattle.block_meaning.specs.Tables.{Table, text_of}
use Rattle.block_meaning.specs.Cells.{ArePairs}
use Rattle.block_meaning.specs.CellReading.{cell_to, cell_value, pairs_by, is_cell, blank_table}
use Rattle.block_meaning.proofs.Answered.{some_is, none_is}
use Rattle.block_meaning.proofs.NestedReading.{reads_to, pairs_take}
use Rattle.block_meaning.proofs.Symbols.{text_of_some}
use Rattle.ion_cells.specs.Standing.{HasLast}
use Rattle.ion_cells.specs.Left.{are_fields, pairs_of, pairs_read, name_of, named, behind_cell}
use Rattle.ion_cells.specs.Finding.{IsLabelOf, StandsIn, pair_front}
use Rattle.ion_cells.proofs.PairFronts.{front_of, no_front}
use Rattle.ion_cells.proofs.Going.{label_some, label_range, behind_some, field_legal, fields_left, pairs_first, no_label, no_pairs}

value_same : (name : List ℕ) (p : List ℕ × Val) (ps : List (List ℕ × Val)) → p.0 ≡ name → value_of name (p ∷ ps) ≡ Some p.1
value_same name p ps e = go (pointwise nat_eq p.0 name) refl
  where
    go : (b : Bool) → b ≡ pointwise nat_eq p.0 name → cond b (Some p.1) (value_of name ps) ≡ Some p.1
    go true h = refl
    go false h = absurd (other_text p.0 name h e)

value_other : (name : List ℕ) (p : List ℕ × Val) (ps : List (List ℕ × Val)) → p.0 ≢ name → value_of name (p ∷ ps) ≡ value_of name ps
value_other name p ps e = go (pointwise nat_eq p.0 name) refl
  where
    go : (b : Bool) → b ≡ pointwise nat_eq p.0 name → cond b (Some p.1) (value_of name ps) ≡ value_of name ps
    go true h = absurd (e (same_text p.0 name h))
    go false h = refl

-- no number from low on is the name's
abbrev pub IsApart : Table → List ℕ → ℕ → Type 0
IsApart table name low = (k : ℕ) → low ≤ k → text_of table k ≡ Some name → ⊥

pub none_in : (table : Table) (name : List ℕ) (depth low : ℕ) (fs : Fields) (bytes : List ℕ) → IsApart table name low → ArePairs table depth low fs bytes → value_of name (pairs fs) ≡ None
none_in table name depth low no_fields bytes apart c = refl
none_in table name depth low (field m v fs) bytes apart c =
    let other : m ≢ name = λ e. apart c.0 c.5 (c.6 ∙ ap (λ (s : List ℕ). Some s) e) in
    value_other name (m, v) (pairs fs) other ∙ none_in table name depth (suc c.0) fs c.3 (λ k h e. apart k (omega (arith, c.5)) e) c.9

-- none of the pairs from a label on has the name, whose number was passed
none_left : (table : Table) (low : ℕ) (bytes name : List ℕ) (label : ℕ) → IsLabelOf table name label → label < low → value_of name (pairs_of table low bytes) ≡ None
unfolding pairs_of
none_left table low bytes name label is passed = go (pairs_by (cell_to table 127) table low (length bytes) bytes) refl
  where
    go : (o : Option Fields) → pairs_by (cell_to table 127) table low (length bytes) bytes ≡ o → value_of name (pairs_read o) ≡ None
    go None e = refl
    go (Some fs) e =
        let c = pairs_take table 1 (cell_to table 127) (reads_to table 127 1 refl) low (length bytes) bytes fs e in
        none_in table name 1 low fs bytes (λ k h g. let same : k ≡ label = is.only k g in absurd (omega arith)) c

label_text : (table : Table) (last n : ℕ) → HasLast table last → 10 ≤ n → n ≤ last → text_of table n ≡ Some (name_of table n)
label_text table last n h low high =
    let s = text_of_some table n low (omega arith) in
    s.1 ∙ ap (λ (t : List ℕ). Some t) (sym (ap (λ o. unwrap_or o []) s.1))

label_other : (table : Table) (last n : ℕ) (name : List ℕ) (label : ℕ) → HasLast table last → 10 ≤ n → n ≤ last → IsLabelOf table name label → n ≢ label → name_of table n ≢ name
label_other table last n name label h low high is ne e = ne (is.only n (label_text table last n h low high ∙ ap (λ (t : List ℕ). Some t) e))

label_same : (table : Table) (n : ℕ) (name : List ℕ) (label : ℕ) → IsLabelOf table name label → 10 ≤ n → n ≡ label → name_of table n ≡ name
label_same table n name label is low e = ap (λ (k : ℕ). name_of table k) e ∙ ap (λ o. unwrap_or o []) (is.is (omega arith))

-- a pair's front, in its parts
pub record FrontAt (bytes : List ℕ) (label : ℕ) (behind rest : List ℕ) : Type 0 where
  pub marked : Some (label, behind) ≡ var_uint bytes
  pub found : Some rest ≡ behind_cell behind

pub front_parts : (bytes : List ℕ) (label : ℕ) (behind rest : List ℕ) → front_of label behind rest ≡ pair_front bytes → FrontAt bytes label behind rest
unfolding pair_front
front_parts bytes label behind rest e = go (var_uint bytes) refl e
  where
    of_rest : (l : ℕ × List ℕ) (o : Option (List ℕ)) → var_uint bytes ≡ Some l → behind_cell l.1 ≡ o → front_of label behind rest ≡ option_map (λ (r : List ℕ). (l.0, l.1, r)) o → FrontAt bytes label behind rest
    of_rest l None k m e = absurd (none_is _ (sym e))
    of_rest l (Some r) k m e =
        let s = some_is (label, behind, rest) (l.0, l.1, r) e in
        let a : label ≡ l.0 = ap (λ (z : ℕ × List ℕ × List ℕ). z.0) s in
        let b : behind ≡ l.1 = ap (λ (z : ℕ × List ℕ × List ℕ). z.1) s in
        let c : rest ≡ r = ap (λ (z : ℕ × List ℕ × List ℕ). z.2) s in
        record {
          marked = (λ i. Some (a i, b i)) ∙ sym k;
          found = ap Some c ∙ sym m ∙ ap behind_cell (sym b);
        }

    go : (o : Option (ℕ × List ℕ)) → var_uint bytes ≡ o → front_of label behind rest ≡ option_and_then (λ (l : ℕ × List ℕ). option_map (λ (r : List ℕ). (l.0, l.1, r)) (behind_cell l.1)) o → FrontAt bytes label behind rest
    go None k e = absurd (none_is _ (sym e))
    go (Some l) k e = of_rest l (behind_cell l.1) k refl e

-- What a walk has passed: the pairs before a place, none of which has the label.
pub record HasPassed (last first : ℕ) (bytes : List ℕ) (label at : ℕ) : Type 0 where
  pub low : ℕ
  pub legal : are_fields last low (drop at bytes) ≡ true
  pub before : Table → List (List ℕ × Val)
  pub split : (table : Table) → HasLast table last → pairs_of table first bytes ≡ before table ++ pairs_of table low (drop at bytes)
  pub value : (table : Table) → HasLast table last → (name : List ℕ) → IsLabelOf table name label → value_of name (pairs_of table first bytes) ≡ value_of name (pairs_of table low (drop at bytes))

pub none_passed : (last first : ℕ) (bytes : List ℕ) (label : ℕ) → are_fields last first bytes ≡ true → HasPassed last first bytes label 0
none_passed last first bytes label legal =
    record { low = first; legal = legal; before = λ table. []; split = λ table h. refl; value = λ table h name is. refl }

-- the pair at a place
module _ (last first : ℕ) (bytes : List ℕ) (label at : ℕ) (passed : HasPassed last first bytes label at) (next start end : ℕ) (ordered : start ≤ end) (front : front_of next (drop start bytes) (drop end bytes) ≡ pair_front (drop at bytes)) where
  parts : FrontAt (drop at bytes) next (drop start bytes) (drop end bytes)
  parts = front_parts (drop at bytes) next (drop start bytes) (drop end bytes) front

  some : 0 < length (drop at bytes)
  some = label_some _ _ parts.marked

  ends : drop (end - start) (drop start bytes) ≡ drop end bytes
  ends =
      let m : start + (end - start) ≡ end = omega arith in
      drop-drop (end - start) start bytes ∙ ap (λ (k : ℕ). drop k bytes) m

  found : Some (drop (end - start) (drop start bytes)) ≡ behind_cell (drop start bytes)
  found = ap Some ends ∙ parts.found

  range : (passed.low ≤ next) × (10 ≤ next) × (next ≤ last)
  range = label_range last passed.low (drop at bytes) passed.legal some next (drop start bytes) parts.marked

  pub cell_legal : is_cell (blank_table last) (take (end - start) (drop start bytes)) ≡ true
  cell_legal = field_legal last passed.low (drop at bytes) passed.legal some next (drop start bytes) parts.marked (end - start) found

  rest_legal : are_fields last (next + 1) (drop end bytes) ≡ true
  rest_legal = rw ends at (fields_left last passed.low (drop at bytes) passed.legal some next (drop start bytes) parts.marked (end - start) found)

  abbrev pub here : Table → List ℕ × Val
  here table = named table next (cell_value table (take (end - start) (drop start bytes)))

  steps : (table : Table) → HasLast table last → pairs_of table passed.low (drop at bytes) ≡ here table ∷ pairs_of table (next + 1) (drop end bytes)
  steps table h = rw ends at (pairs_first last passed.low (drop at bytes) passed.legal some next (drop start bytes) parts.marked (end - start) found table h)

  stands_here : (table : Table) → HasLast table last → pairs_of table first bytes ≡ passed.before table ++ here table ∷ pairs_of table (next + 1) (drop end bytes)
  stands_here table h = passed.split table h ∙ ap (λ (ps : List (List ℕ × Val)). passed.before table ++ ps) (steps table h)

  pub stands_label : next ≡ label → (table : Table) → HasLast table last → StandsIn (named table label (cell_value table (take (end - start) (drop start bytes)))) (pairs_of table first bytes)
  stands_label e table h =
      let after = pairs_of table (next + 1) (drop end bytes) in
      record {
        before = passed.before table;
        after = after;
        split = stands_here table h ∙ ap (λ (k : ℕ). passed.before table ++ named table k (cell_value table (take (end - start) (drop start bytes))) ∷ after) e;
      }

  pub value_here : next ≡ label → (table : Table) → HasLast table last → (name : List ℕ) → IsLabelOf table name label → value_of name (pairs_of table first bytes) ≡ Some (cell_value table (take (end - start) (drop start bytes)))
  value_here e table h name is =
      passed.value table h name is ∙ ap (value_of name) (steps table h)
      ∙ value_same name (here table) _ (label_same table next name label is range.1 e)

  other_here : next ≢ label → (table : Table) → HasLast table last → (name : List ℕ) → IsLabelOf table name label → value_of name (pairs_of table first bytes) ≡ value_of name (pairs_of table (next + 1) (drop end bytes))
  other_here ne table h name is =
      passed.value table h name is ∙ ap (value_of name) (steps table h)
      ∙ value_other name (here table) _ (label_other table last next name label h range.1 range.2 is ne)

  pub none_here : label < next → (table : Table) → HasLast table last → (name : List ℕ) → IsLabelOf table name label → value_of name (pairs_of table first bytes) ≡ None
  none_here more table h name is =
      let ne : next ≢ label = omega arith in
      other_here ne table h name is ∙ none_left table (next + 1) (drop end bytes) name label is (omega arith)

  pub one_passed : next ≢ label → HasPassed last first bytes label end
  one_passed ne =
      record {
        low = next + 1;
        legal = rest_legal;
        before = λ table. passed.before table ++ here table ∷ [];
        split = λ table h. stands_here table h ∙ sym (append_assoc (passed.before table) (here table ∷ []) _);
        value = λ table h name is. other_here ne table h name is;
      }

-- no pair is left
pub all_passed : (last first : ℕ) (bytes : List ℕ) (label at : ℕ) → HasPassed last first bytes label at → length bytes ≤ at → (table : Table) → HasLast table last → (name : List ℕ) → IsLabelOf table name label → value_of name (pairs_of table first bytes) ≡ None
all_passed last first bytes label at passed h table k name is =
    passed.value table k name is ∙ ap (value_of name) (no_pairs table passed.low (drop at bytes) (omega (arith, length-drop at bytes)))

-- where a pair is left, its front is found
pub front_found : (last first : ℕ) (bytes : List ℕ) (label at : ℕ) → HasPassed last first bytes label at → at < length bytes → no_front ≡ pair_front (drop at bytes) → ⊥
unfolding pair_front
front_found last first bytes label at passed h e = go (var_uint (drop at bytes)) refl e
  where
    some_bytes : 0 < length (drop at bytes)
    some_bytes = omega (arith, length-drop at bytes)

    go : (o : Option (ℕ × List ℕ)) → var_uint (drop at bytes) ≡ o → no_front ≡ option_and_then (λ (l : ℕ × List ℕ). option_map (λ (r : List ℕ). (l.0, l.1, r)) (behind_cell l.1)) o → ⊥
    go None k e = let n = no_label last passed.low (drop at bytes) passed.legal (sym k) in absurd (omega (arith, some_bytes, n))
    go (Some l) k e =
        let b = behind_some last passed.low (drop at bytes) passed.legal some_bytes l.0 l.1 (sym k) in
        none_is _ (e ∙ ap (option_map (λ (r : List ℕ). (l.0, l.1, r))) (sym b.1))
