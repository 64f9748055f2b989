-- What a cell's tag and content say of its value, and what the contents that are made of them denote.
use Rattle.std.proofs.Common.{◌≡◌, ℕ, ◌-◌, ◌≤◌, ℤ, Bool, true, false, cond, List, length, drop, Option, Some, None, refl, sym, ap, subst, ◌∙◌, arith}
use Rattle.std.specs.Option.{option_map}
use Rattle.std.specs.Prelude.{is_some}
use Rattle.time_meaning.specs.Moments.{IsTime}
use Rattle.value_meaning.specs.Val.{Val, time, text, list, struct, vals, fields}
use Rattle.value_meaning.proofs.Chains.{vals-items, items-vals, fields-pairs, pairs-fields}
use Rattle.block_meaning.specs.Numbers.{magnitude}
use Rattle.block_meaning.specs.Timestamps.{timestamp}
use Rattle.block_meaning.specs.Tables.{Table, text_of}
use Rattle.block_meaning.specs.CellReading.{blank_table}
use Rattle.block_meaning.specs.Blocks.{only_payload}
use Rattle.block_meaning.proofs.Answered.{some_is, none_is}
use Rattle.block_meaning.proofs.LastSymbol.{length_blank}
use Rattle.block_meaning.proofs.Symbols.{text_of_range, text_of_some}
use Rattle.block_meaning.proofs.TimeRange.{timestamp_is_time}
use Rattle.ion_cells.specs.declared.cell.Cell.{Cell}
use Rattle.ion_cells.specs.declared.content.Content.{Content}
use Rattle.ion_cells.specs.declared.content.Content.TheVariants as contents
use Rattle.ion_cells.specs.declared.iterators.Cells.{Cells}
use Rattle.ion_cells.specs.declared.iterators.Fields.{Fields}
use Rattle.ion_cells.specs.declared.tag.Tag.{Tag}
use Rattle.ion_cells.specs.declared.tag.Tag.TheVariants as tags
use Rattle.std.specs.Borrow.{Bor}
use Rattle.ion_cells.specs.Kinds.{kind_of}
use Rattle.ion_cells.specs.Values.{text_in, items_in, pairs_in}
use Rattle.ion_cells.specs.Standing.{HasLast}
use Rattle.ion_cells.specs.Iterating.{values_left, pairs_left}
use Rattle.ion_cells.specs.Contents.{content_value, symbol_in}
use Rattle.ion_cells.specs.Tags.{kind_of_tag}
use Rattle.ion_cells.specs.Left.{are_items, are_fields, values_of, pairs_of, name_of}
use Rattle.ion_cells.specs.Shown.{cell_bytes, cell_last, cell_content, Fits, shown, is_symbol_cell}
use Rattle.ion_cells.proofs.Holding.{Holds, symbol_payload, holds_so, symbol_so, kind_so}

module _ (cell : Cell) where
  pub kind_in : (table : Table) → Fits table cell → kind_of_tag cell.tag ≡ kind_of (is_symbol_cell cell) (shown table cell)
  unfolding shown cell_bytes cell_last is_symbol_cell
  kind_in table fits = kind_so cell.last cell.bytes.now cell.legal table fits cell.tag (length cell.bytes.now - cell.start) (drop cell.start cell.bytes.now) cell.opens

  module _ (tag : Tag) (p : List ℕ) (same : cell.tag ≡ tag) (is : p ≡ cell_content cell) where
    pub holds_in : (table : Table) → Fits table cell → Holds table tag p (shown table cell)
    unfolding shown cell_bytes cell_last cell_content
    holds_in table fits =
        let h = holds_so cell.last cell.bytes.now cell.legal table fits cell.tag (length cell.bytes.now - cell.start) (drop cell.start cell.bytes.now) cell.opens in
        subst (λ (l : List ℕ). Holds table tag l (shown table cell)) (sym is) (subst (λ (t : Tag). Holds table t (drop cell.start cell.bytes.now) (shown table cell)) same h)

    -- under the blank table of the cell's own last number
    pub holds_here : Holds (blank_table cell.last) tag p (shown (blank_table cell.last) cell)
    unfolding cell_last
    holds_here = holds_in (blank_table cell.last) (length_blank cell.last)

    pub symbol_here : symbol_payload tag p ≡ only_payload 7 (cell_bytes cell)
    unfolding cell_bytes cell_content
    symbol_here =
        sym (symbol_so cell.last cell.bytes.now cell.legal cell.tag (length cell.bytes.now - cell.start) (drop cell.start cell.bytes.now) cell.opens ∙ (λ i. symbol_payload (same i) (is_back i)))
      where
        is_back : drop cell.start cell.bytes.now ≡ p
        is_back = sym is

module _ (table : Table) (p : List ℕ) (v : Val) where
  pub symbol_named : (n : ℕ) → n ≡ magnitude p → Holds table tags.Symbol p v → text (name_of table n) ≡ v
  symbol_named n e h = rw (e, h.1.1) (sym h.1.2)

  pub items_denote : (vs : List Val) → vs ≡ values_of table p → Holds table tags.List p v → list (vals vs) ≡ v
  unfolding values_of
  items_denote vs e h = rw (e, h.1) (ap list (vals-items h.0) ∙ sym h.2)

  pub pairs_denote : (fs : List (List ℕ × Val)) → fs ≡ pairs_of table 10 p → Holds table tags.Struct p v → struct (fields fs) ≡ v
  unfolding pairs_of
  pairs_denote fs e h = rw (e, h.1) (ap struct (fields-pairs h.0) ∙ sym h.2)

  pub time_denotes : (m : ℤ) → Some m ≡ timestamp p → Holds table tags.Time p v → (time m ≡ v) × IsTime m
  time_denotes m e h =
      let same : m ≡ h.0 = some_is _ _ (e ∙ h.1) in
      (ap time same ∙ sym h.2, (timestamp_is_time m p (sym e)).1)

  pub time_is : None ≡ timestamp p → Holds table tags.Time p v → ⊥
  time_is e h = none_is _ (e ∙ h.1)

module _ (last : ℕ) (p : List ℕ) (v : Val) where
  pub items_legal : Holds (blank_table last) tags.List p v → are_items last p ≡ true
  unfolding are_items
  items_legal h = rw h.1 refl

  pub pairs_legal : Holds (blank_table last) tags.Struct p v → are_fields last 10 p ≡ true
  unfolding are_fields
  pairs_legal h = rw h.1 refl

  pub symbol_within : Holds (blank_table last) tags.Symbol p v → (10 ≤ magnitude p) × (magnitude p ≤ last)
  symbol_within h =
      let r = text_of_range (blank_table last) (magnitude p) h.1.0 h.1.1 in
      (r.0, omega (arith, length_blank last))

-- what the readers of one kind give of a content

pub items_are : (table : Table) (cells : Cells) (v : Val) → list (vals (values_left table cells)) ≡ v → Some (values_left table cells) ≡ items_in v
items_are table cells v e = ap Some (sym (items-vals (values_left table cells))) ∙ ap items_in e

pub pairs_are : (table : Table) (named : Fields) (v : Val) → struct (fields (pairs_left table named)) ≡ v → Some (pairs_left table named) ≡ pairs_in v
pairs_are table named v e = ap Some (sym (pairs-fields (pairs_left table named))) ∙ ap pairs_in e

pub symbol_text : (table : Table) (last n : ℕ) (v : Val) → HasLast table last → (10 ≤ n) × (n ≤ last) → text (name_of table n) ≡ v → text_of table n ≡ text_in v
symbol_text table last n v fits range e =
    let s = text_of_some table n range.0 (omega (arith, fits, range.0, range.1)) in
    let named : name_of table n ≡ s.0 = rw s.1 refl in
    s.1 ∙ ap Some (sym named) ∙ ap text_in e

module _ (cell : Cell) (v : Val) where
  none_mapped : (o : Option (List ℕ)) → None ≡ option_map magnitude o → is_some o ≡ false
  none_mapped None e = refl
  none_mapped (Some p) e = cc

  some_mapped : (n : ℕ) (o : Option (List ℕ)) → Some n ≡ option_map magnitude o → is_some o ≡ true
  some_mapped n None e = cc
  some_mapped n (Some p) e = refl

  pub text_is : (s : List ℕ) → None ≡ option_map magnitude (only_payload 7 (cell_bytes cell)) → text s ≡ v → Some s ≡ cond (is_symbol_cell cell) None (text_in v)
  unfolding is_symbol_cell
  text_is s none e = rw (none_mapped (only_payload 7 (cell_bytes cell)) none) (ap text_in e)

  always_none : (b : Bool) (w : Val) → None ≡ text_in w → None ≡ cond b None (text_in w)
  always_none true w e = refl
  always_none false w e = e

  pub no_text_is : (table : Table) (x : Content) → ((s : Bor (List ℕ)) → x ≡ contents.Text s → ⊥) → content_value table x ≡ v → symbol_in x ≡ option_map magnitude (only_payload 7 (cell_bytes cell)) → None ≡ cond (is_symbol_cell cell) None (text_in v)
  unfolding is_symbol_cell
  no_text_is table contents.Null other e symbol = always_none _ v (ap text_in e)
  no_text_is table (contents.Bool b) other e symbol = always_none _ v (ap text_in e)
  no_text_is table (contents.Int n) other e symbol = always_none _ v (ap text_in e)
  no_text_is table (contents.Time t) other e symbol = always_none _ v (ap text_in e)
  no_text_is table (contents.Symbol n) other e symbol = rw (some_mapped n (only_payload 7 (cell_bytes cell)) symbol) refl
  no_text_is table (contents.Text s) other e symbol = absurd (other s refl)
  no_text_is table (contents.List cells) other e symbol = always_none _ v (ap text_in e)
  no_text_is table (contents.Struct pairs) other e symbol = always_none _ v (ap text_in e)
