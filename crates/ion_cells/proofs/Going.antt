-- The first of cells that stand end to end, found by its head alone.
use Rattle.std.proofs.Common.{◌≡◌, ℕ, suc, ◌-◌, ◌+◌, ◌<◌, ◌≤◌, true, false, List, [], ◌∷◌, length, take, drop, Option, Some, None, ltb, add-one, refl, sym, ap, ◌∙◌, arith, inl, inr}
use Rattle.std.specs.Option.{option_map, option_and_then}
use Rattle.std.specs.Prelude.{is_some, unwrap_or}
use Rattle.std.proofs.lemmas.List.{take_rest}
use Rattle.value_meaning.specs.Val.{Val, Vals, Fields, val, field}
use Rattle.block_meaning.specs.Tables.{Table, text_of}
use Rattle.block_meaning.specs.CellReading.{head_at, one_byte, cell_by, cell_to, cells_by, pairs_by, is_cell, cell_value, blank_table}
use Rattle.block_meaning.specs.Numbers.{var_uint}
use Rattle.std.proofs.lemmas.Bool.{ltb-false}
use Rattle.block_meaning.proofs.Answered.{chosen, some_is, none_is, then_is, map_is}
use Rattle.block_meaning.proofs.Symbols.{same_symbols, text_of_range}
use Rattle.block_meaning.proofs.LastSymbol.{length_blank, same_ends, same_cells, same_pairs}
use Rattle.block_meaning.proofs.CellSteps.{ends, cell_shrinks, cells_next, cells_stop, pairs_next, var_uint_shrinks, first_of_cells}
use Rattle.ion_cells.specs.Standing.{HasLast}
use Rattle.ion_cells.specs.Steps.{payload_to}
use Rattle.ion_cells.specs.declared.tag.Tag.{Tag}
use Rattle.ion_cells.specs.Tags.{tag_of_type, opening}
use Rattle.ion_cells.specs.Left.{are_items, are_fields, values_read, values_of, pairs_read, pairs_of, name_of, named, behind_cell}
use Rattle.ion_cells.proofs.Answered.{there}
use Rattle.ion_cells.proofs.PairSteps.{cell_to_is}
use Rattle.ion_cells.proofs.Stands.{same_last}

-- what follows a cell that was read is found by its first bytes
behind_by : (p : ℕ → List ℕ → Option Val) (bytes : List ℕ) (x : Val × List ℕ) → cell_by p bytes ≡ Some x → behind_cell bytes ≡ Some x.1
unfolding cell_by behind_cell opening
behind_by p [] x e = absurd cc
behind_by p (h ∷ rest) x e = go (one_byte h) refl
  where
    go : (o : Option Val) → one_byte h ≡ o → behind_cell (h ∷ rest) ≡ Some x.1
    go (Some v) k =
        let m : Some (v, rest) ≡ Some x = rw k at e in
        rw k (ap (λ (z : Val × List ℕ). Some z.1) (some_is _ _ m))
    go None k = rw k (by_head (head_at (h ∷ rest)) (rw k at e))
      where
        by_head : (o : Option (ℕ × ℕ × List ℕ)) → option_and_then (λ y. option_map (λ v. (v, drop y.1 y.2)) (p y.0 (take y.1 y.2))) o ≡ Some x → option_map (λ (y : Tag × ℕ × List ℕ). drop y.1 y.2) (option_map (λ (y : ℕ × ℕ × List ℕ). (tag_of_type y.0, y.1, y.2)) o) ≡ Some x.1
        by_head None e = absurd cc
        by_head (Some y) e =
            let m = map_is (λ (v : Val). (v, drop y.1 y.2)) (p y.0 (take y.1 y.2)) x e in
            ap (λ (z : Val × List ℕ). Some z.1) m.2

pub behind_is : (table : Table) (room : ℕ) (bytes : List ℕ) (x : Val × List ℕ) → cell_to table room bytes ≡ Some x → behind_cell bytes ≡ Some x.1
behind_is table room bytes x e = behind_by (payload_to table room) bytes x (sym (cell_to_is table room bytes) ∙ e)

-- a first cell, where its end was found
module _ (last : ℕ) (bytes : List ℕ) (x : Val × List ℕ) (read : cell_to (blank_table last) 127 bytes ≡ Some x) (e : ℕ) (found : Some (drop e bytes) ≡ behind_cell bytes) where
  rest_is : drop e bytes ≡ x.1
  rest_is = some_is _ _ (found ∙ behind_is (blank_table last) 127 bytes x read)

  ends_there : Some (drop e bytes) ≡ ends (cell_to (blank_table last) 127 bytes)
  ends_there = rw read (ap (λ (z : List ℕ). Some z) rest_is)

  pub front_legal : is_cell (blank_table last) (take e bytes) ≡ true
  front_legal = (first_of_cells (blank_table last) 127 bytes e (omega arith) ends_there).cell

  module _ (table : Table) (h : HasLast table last) where
    pub front_read : cell_to table 127 bytes ≡ Some (cell_value table (take e bytes), drop e bytes)
    front_read = (first_of_cells table 127 bytes e (omega arith) (ends_there ∙ same_ends (blank_table last) table 127 (same_last table last h) bytes)).read

map_some : {A B : Type 0} (g : A → B) (o : Option A) → is_some (option_map g o) ≡ true → is_some o ≡ true
map_some g None k = absurd cc
map_some g (Some x) k = refl

-- cells end to end
module _ (last : ℕ) (bytes : List ℕ) (legal : are_items last bytes ≡ true) where
  items_legal : (table : Table) → HasLast table last → is_some (cells_by (cell_to table 127) (length bytes) bytes) ≡ true
  unfolding are_items
  items_legal table h =
      sym (same_cells (cell_to (blank_table last) 127) (cell_to table 127) (same_ends (blank_table last) table 127 (same_last table last h)) (length bytes) bytes) ∙ legal

  pub item_read : 0 < length bytes → (x : Val × List ℕ) × (cell_to (blank_table last) 127 bytes ≡ Some x)
  unfolding are_items
  item_read some = go (cell_to (blank_table last) 127 bytes) refl
    where
      go : (o : Option (Val × List ℕ)) → cell_to (blank_table last) 127 bytes ≡ o → (x : Val × List ℕ) × (cell_to (blank_table last) 127 bytes ≡ Some x)
      go None k = absurd (let m : is_some (cells_by (cell_to (blank_table last) 127) (length bytes) bytes) ≡ false = ap is_some (cells_stop (cell_to (blank_table last) 127) (length bytes) bytes k some) in cc)
      go (Some x) k = (x, k)

  module _ (e : ℕ) (some : 0 < length bytes) (found : Some (drop e bytes) ≡ behind_cell bytes) where
    pub item_legal : is_cell (blank_table last) (take e bytes) ≡ true
    item_legal = let r = item_read some in front_legal last bytes r.0 r.1 e found

    step : (table : Table) → HasLast table last → cells_by (cell_to table 127) (length bytes) bytes ≡ option_map (val (cell_value table (take e bytes))) (cells_by (cell_to table 127) (length (drop e bytes)) (drop e bytes))
    step table h =
        let r = item_read some in
        let f = front_read last bytes r.0 r.1 e found table h in
        let less = cell_shrinks table 127 bytes (cell_value table (take e bytes), drop e bytes) f in
        cells_next (cell_to table 127) (cell_shrinks table 127) (length bytes) (length (drop e bytes)) bytes (cell_value table (take e bytes), drop e bytes) f (omega arith) (omega arith)

    others_some : (table : Table) → HasLast table last → is_some (cells_by (cell_to table 127) (length (drop e bytes)) (drop e bytes)) ≡ true
    others_some table h = map_some (val (cell_value table (take e bytes))) _ (rw (step table h) at (items_legal table h))

    pub others_legal : are_items last (drop e bytes) ≡ true
    unfolding are_items
    others_legal = others_some (blank_table last) (length_blank last)

    pub values_first : (table : Table) → HasLast table last → values_of table bytes ≡ cell_value table (take e bytes) ∷ values_of table (drop e bytes)
    unfolding values_of
    values_first table h = rw (step table h) (go (cells_by (cell_to table 127) (length (drop e bytes)) (drop e bytes)) (others_some table h))
      where
        go : (o : Option Vals) → is_some o ≡ true → values_read (option_map (val (cell_value table (take e bytes))) o) ≡ cell_value table (take e bytes) ∷ values_read o
        go None k = absurd cc
        go (Some vs) k = refl

pub no_values : (table : Table) (bytes : List ℕ) → length bytes ≡ 0 → values_of table bytes ≡ []
unfolding values_of
no_values table [] h = refl
no_values table (b ∷ bs) h = absurd (omega arith)

-- the end is found wherever there is a cell
pub none_found : (last : ℕ) (bytes : List ℕ) → are_items last bytes ≡ true → None ≡ behind_cell bytes → length bytes ≡ 0
none_found last [] legal k = refl
none_found last (b ∷ bs) legal k =
    let r = item_read last (b ∷ bs) legal (omega arith) in
    absurd (none_is _ (k ∙ behind_is (blank_table last) 127 (b ∷ bs) r.0 r.1))

pub some_found : (bytes rest : List ℕ) → Some rest ≡ behind_cell bytes → 0 < length bytes
unfolding behind_cell opening
some_found [] rest k = absurd cc
some_found (b ∷ bs) rest k = omega arith

-- the first pair, as it is read
pub record PairRead (table : Table) (low : ℕ) (bytes : List ℕ) : Type 0 where
  pub label : ℕ
  pub behind : List ℕ
  pub marked : var_uint bytes ≡ Some (label, behind)
  pub high : low ≤ label
  pub name : List ℕ
  pub names : text_of table label ≡ Some name
  pub cell : Val × List ℕ
  pub read : cell_to table 127 behind ≡ Some cell

-- pairs end to end
module _ (last low : ℕ) (bytes : List ℕ) (legal : are_fields last low bytes ≡ true) where
  fields_legal : (table : Table) → HasLast table last → is_some (pairs_by (cell_to table 127) table low (length bytes) bytes) ≡ true
  unfolding are_fields
  fields_legal table h =
      let s = same_last table last h in
      sym (same_pairs (cell_to (blank_table last) 127) (cell_to table 127) (same_ends (blank_table last) table 127 s) (blank_table last) table (same_symbols (blank_table last) table s) low (length bytes) bytes) ∙ legal

  pub pair_read : (table : Table) → HasLast table last → 0 < length bytes → PairRead table low bytes
  pair_read table h some = go bytes (fields_legal table h) some
    where
      go : (bytes : List ℕ) → is_some (pairs_by (cell_to table 127) table low (length bytes) bytes) ≡ true → 0 < length bytes → PairRead table low bytes
      go [] k some = absurd (omega arith)
      go (b ∷ bs) k some =
          let all = there _ k in
          let l = then_is _ (var_uint (b ∷ bs)) all.0 all.1 in
          elim (chosen (ltb l.0.0 low) _ _ _ l.2) [
            | inl a ↦ absurd cc
            | inr a ↦
                let n = then_is _ (text_of table l.0.0) all.0 a.1 in
                let x = then_is _ (cell_to table 127 l.0.1) all.0 n.2 in
                record { label = l.0.0; behind = l.0.1; marked = l.1; high = ltb-false _ _ a.0; name = n.0; names = n.1; cell = x.0; read = x.1 }
          ]

  module _ (some : 0 < length bytes) (label : ℕ) (behind : List ℕ) (marked : Some (label, behind) ≡ var_uint bytes) where
    at_label : (table : Table) → HasLast table last → (low ≤ label) × ((name : List ℕ) × (text_of table label ≡ Some name)) × ((x : Val × List ℕ) × (cell_to table 127 behind ≡ Some x))
    at_label table h =
        let p = pair_read table h some in
        let s = some_is (label, behind) (p.label, p.behind) (marked ∙ p.marked) in
        let e : label ≡ p.label = ap (λ (z : ℕ × List ℕ). z.0) s in
        let f : behind ≡ p.behind = ap (λ (z : ℕ × List ℕ). z.1) s in
        (omega (arith, p.high), (p.name, ap (λ (n : ℕ). text_of table n) e ∙ p.names), (p.cell, ap (λ (z : List ℕ). cell_to table 127 z) f ∙ p.read))

    pub label_range : (low ≤ label) × (10 ≤ label) × (label ≤ last)
    label_range =
        let a = at_label (blank_table last) (length_blank last) in
        let r = text_of_range (blank_table last) label a.1.0 a.1.1 in
        (a.0, r.0, omega (arith, length_blank last))

    pub behind_some : (x : List ℕ) × (Some x ≡ behind_cell behind)
    behind_some =
        let a = at_label (blank_table last) (length_blank last) in
        (a.2.0.1, sym (behind_is (blank_table last) 127 behind a.2.0 a.2.1))

    module _ (e : ℕ) (found : Some (drop e behind) ≡ behind_cell behind) where
      pub field_legal : is_cell (blank_table last) (take e behind) ≡ true
      field_legal = let a = at_label (blank_table last) (length_blank last) in front_legal last behind a.2.0 a.2.1 e found

      pair_step : (table : Table) → HasLast table last → pairs_by (cell_to table 127) table low (length bytes) bytes ≡ option_map (field (name_of table label) (cell_value table (take e behind))) (pairs_by (cell_to table 127) table (suc label) (length (drop e behind)) (drop e behind))
      pair_step table h =
          let a = at_label table h in
          let b = at_label (blank_table last) (length_blank last) in
          let f = front_read last behind b.2.0 b.2.1 e found table h in
          let n : text_of table label ≡ Some (name_of table label) = name_is (text_of table label) a.1.0 a.1.1 in
          pairs_next (cell_to table 127) (cell_shrinks table 127) table low (length bytes) (length (drop e behind)) bytes (label, behind) (name_of table label) (cell_value table (take e behind), drop e behind) (sym marked) a.0 n f (omega arith) (omega arith)
        where
          name_is : (o : Option (List ℕ)) (name : List ℕ) → o ≡ Some name → o ≡ Some (unwrap_or o [])
          name_is None name k = absurd cc
          name_is (Some x) name k = refl

      others_are : (table : Table) → HasLast table last → is_some (pairs_by (cell_to table 127) table (suc label) (length (drop e behind)) (drop e behind)) ≡ true
      others_are table h = map_some (field (name_of table label) (cell_value table (take e behind))) _ (rw (pair_step table h) at (fields_legal table h))

      pub fields_left : are_fields last (label + 1) (drop e behind) ≡ true
      unfolding are_fields
      fields_left = rw add-one (others_are (blank_table last) (length_blank last))

      pub pairs_first : (table : Table) → HasLast table last → pairs_of table low bytes ≡ named table label (cell_value table (take e behind)) ∷ pairs_of table (label + 1) (drop e behind)
      unfolding pairs_of
      pairs_first table h = rw (add-one, pair_step table h) (go (pairs_by (cell_to table 127) table (suc label) (length (drop e behind)) (drop e behind)) (others_are table h))
        where
          go : (o : Option Fields) → is_some o ≡ true → pairs_read (option_map (field (name_of table label) (cell_value table (take e behind))) o) ≡ named table label (cell_value table (take e behind)) ∷ pairs_read o
          go None k = absurd cc
          go (Some fs) k = refl

pub no_pairs : (table : Table) (low : ℕ) (bytes : List ℕ) → length bytes ≡ 0 → pairs_of table low bytes ≡ []
unfolding pairs_of
no_pairs table low [] h = refl
no_pairs table low (b ∷ bs) h = absurd (omega arith)

-- a label stands wherever there is a pair
pub no_label : (last low : ℕ) (bytes : List ℕ) → are_fields last low bytes ≡ true → None ≡ var_uint bytes → length bytes ≡ 0
no_label last low [] legal k = refl
no_label last low (b ∷ bs) legal k =
    let p = pair_read last low (b ∷ bs) legal (blank_table last) (length_blank last) (omega arith) in
    absurd (none_is _ (k ∙ p.marked))

pub label_some : (bytes : List ℕ) (x : ℕ × List ℕ) → Some x ≡ var_uint bytes → 0 < length bytes
label_some [] x k = let m = var_uint_shrinks [] x (sym k) in absurd (omega arith)
label_some (b ∷ bs) x k = omega arith

-- the slice from a place on is what follows the place
pub behind_marked : (bytes : List ℕ) (label start : ℕ) → Some (label, drop start bytes) ≡ var_uint bytes → Some (label, take (length bytes - start) (drop start bytes)) ≡ var_uint bytes
behind_marked bytes label start k = rw (take_rest bytes start) k
