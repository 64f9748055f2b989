-- The parts of a cell of a table are cells of the table, and which values they have.
use Rattle.std.proofs.Common.{◌≡◌, ℕ, suc, ◌+◌, ◌-◌, ◌<◌, ◌≤◌, true, List, [], ◌∷◌, ◌++◌, length, Option, Some, None, refl, sym, ap, subst, ◌∙◌, arith}
use Rattle.std.specs.Prelude.{replicate, IfSome, unwrap_or, slice_get}
use Rattle.std.specs.Option.{option_map}
use Rattle.std.proofs.lemmas.List.{append-nil, length-replicate}
use Rattle.value_meaning.specs.Val.{Val, Fields, missing, null, truth, int, time, text, list, struct, no_fields, field, items, pairs, vals, fields}
use Rattle.value_meaning.specs.Pairs.{value_of}
use Rattle.block_meaning.specs.Tables.{Table}
use Rattle.block_meaning.specs.Cells.{IsCell}
use Rattle.block_meaning.specs.CellReading.{is_cell, cell_value}
use Rattle.block_meaning.proofs.NestedReading.{cells_read}
use Rattle.block_meaning.proofs.BlockReading.{vals-items}
use Rattle.tree_meaning.specs.Tree.{name, at}
use Rattle.eval_meaning.specs.Paths.{step_of}
use Rattle.ion_cells.specs.declared.cell.Cell.{Cell}
use Rattle.ion_cells.specs.declared.iterators.Cells.{Cells}
use Rattle.ion_cells.specs.declared.iterators.Fields.{Fields as Left}
use Rattle.ion_cells.specs.Standing.{HasLast}
use Rattle.ion_cells.specs.Shown.{cell_bytes, cell_last, shown, Fits}
use Rattle.ion_cells.specs.Values.{items_in, pairs_in}
use Rattle.ion_cells.specs.Left.{named}
use Rattle.ion_cells.specs.Iterating.{items_last, values_left, fields_last, pairs_left}
use Rattle.ion_cells.proofs.Stands.{legal_stands}
use Rattle.lane_field.specs.CellsOf.{IsCellOf, denoted}
use Rattle.lane_field.specs.Longest.{longest, vals_longest, fields_longest}
use Rattle.ion_cells.specs.Finding.{IsLabelOf, StandsIn, FindsPair}
use Rattle.lane_field.specs.Walking.{GivesItem}
use Rattle.lane_field.specs.Steps.{IsNamed}
use Rattle.lane_field.proofs.Longer.{longer_is, longer_text, read_alone}
use Rattle.lane_field.proofs.Shorter.{shorter_cell, shorter_text}
use Rattle.lane_field.proofs.OwnTables.{length_filled}
use Rattle.lane_field.proofs.Numbers.{one_number}

pub record IsPart (table : Table) (item : Cell) (v : Val) : Type 0 where
  pub of : IsCellOf table item
  pub same : shown table item ≡ v

pub is_of : (table : Table) (depth : ℕ) (v : Val) (bytes : List ℕ) → depth ≡ 0 → IsCell table depth v bytes → (is_cell table bytes ≡ true) × (cell_value table bytes ≡ v)
is_of table depth v bytes e c =
    let P : ℕ → Type 0 = λ d. IsCell table d v bytes in
    read_alone table bytes v ((cells_read table 0 v bytes []).1 (bytes, sym (append-nil bytes), subst P e c))

module _ (table : Table) (cell : Cell) (h : IsCellOf table cell) (j : ℕ) (long : longest (shown table cell) ≤ j) where
  filler : List ℕ
  filler = replicate j 0

  count : ℕ
  count = cell_last cell - 9 - length table

  abbrev wide : Table
  wide = table ++ replicate count filler

  wide_fits : HasLast wide (cell_last cell)
  unfolding count
  wide_fits = length_filled (cell_last cell - 9) filler table h.few

  wide_same : shown wide cell ≡ shown table cell
  unfolding shown
  wide_same = (longer_is table (replicate count filler) (cell_bytes cell) h.legal).1

  filler_size : length filler ≡ j
  unfolding filler
  filler_size = length-replicate j 0

  wide_stands : (item : Cell) → HasLast wide (cell_last item) → IsCell wide 0 (shown wide item) (cell_bytes item)
  unfolding shown cell_bytes cell_last
  wide_stands item fits = legal_stands wide item.last item.bytes.now item.legal fits

  part_cell : (item : Cell) → cell_last item ≡ cell_last cell → longest (shown wide item) ≤ longest (shown wide cell) → IsCell table 0 (shown wide item) (cell_bytes item)
  part_cell item e less =
      let same = ap longest wide_same in
      shorter_cell table count filler 0 (shown wide item) (cell_bytes item) (omega (arith, less, same, long, filler_size)) (wide_stands item (wide_fits ∙ ap (λ (n : ℕ). n - 9) (sym e)))

  part_value : (item : Cell) → (is_cell table (cell_bytes item) ≡ true) × (cell_value table (cell_bytes item) ≡ shown wide item) → shown table item ≡ shown wide item
  unfolding shown
  part_value item w = w.1

  part : (item : Cell) → cell_last item ≡ cell_last cell → longest (shown wide item) ≤ longest (shown wide cell) → IsPart table item (shown wide item)
  part item e less =
      let w = is_of table 0 (shown wide item) (cell_bytes item) refl (part_cell item e less) in
      record {
        of = record { legal = w.0; few = omega (arith, h.few, e) };
        same = part_value item w;
      }

  whole_of : (r : Option Cell) → IfSome r (λ item. cell_last item ≡ cell_last cell) → IfSome r (λ item. longest (shown wide item) ≤ longest (shown wide cell)) → IfSome r (IsCellOf table) × (denoted table r ≡ unwrap_or (option_map (shown wide) r) missing)
  whole_of None e less = (tt, refl)
  whole_of (Some item) e less = let p = part item e less in (p.of, p.same)

-- what a step gives, by the items or pairs of the value
pub find_step : (n : List ℕ) (v : Val) (ps : List (List ℕ × Val)) (r : Option Val) → Some ps ≡ pairs_in v → r ≡ value_of n ps → unwrap_or r missing ≡ step_of (name n) v
find_step n (struct fs) ps r e g =
    let same : ps ≡ pairs fs = cc in
    ap (λ o. unwrap_or o missing) (g ∙ ap (value_of n) same)
find_step n missing ps r e g = absurd cc
find_step n null ps r e g = absurd cc
find_step n (truth b) ps r e g = absurd cc
find_step n (int m) ps r e g = absurd cc
find_step n (time t) ps r e g = absurd cc
find_step n (text s) ps r e g = absurd cc
find_step n (list vs) ps r e g = absurd cc

pub find_none : (n : List ℕ) (v : Val) → None ≡ pairs_in v → missing ≡ step_of (name n) v
find_none n (struct fs) e = absurd cc
find_none n missing e = refl
find_none n null e = refl
find_none n (truth b) e = refl
find_none n (int m) e = refl
find_none n (time t) e = refl
find_none n (text s) e = refl
find_none n (list vs) e = refl

pub item_step : (k : ℕ) (v : Val) (vs : List Val) (r : Option Val) → Some vs ≡ items_in v → r ≡ slice_get vs k → unwrap_or r missing ≡ step_of (at k) v
item_step k (list ws) vs r e g =
    let same : vs ≡ items ws = cc in
    ap (λ o. unwrap_or o missing) (g ∙ ap (λ xs. slice_get xs k) same)
item_step k missing vs r e g = absurd cc
item_step k null vs r e g = absurd cc
item_step k (truth b) vs r e g = absurd cc
item_step k (int m) vs r e g = absurd cc
item_step k (time t) vs r e g = absurd cc
item_step k (text s) vs r e g = absurd cc
item_step k (struct fs) vs r e g = absurd cc

pub item_none : (k : ℕ) (v : Val) → None ≡ items_in v → missing ≡ step_of (at k) v
item_none k (list vs) e = absurd cc
item_none k missing e = refl
item_none k null e = refl
item_none k (truth b) e = refl
item_none k (int m) e = refl
item_none k (time t) e = refl
item_none k (text s) e = refl
item_none k (struct fs) e = refl

fields-pairs : (fs : Fields) → fields (pairs fs) ≡ fs
fields-pairs no_fields = refl
fields-pairs (field n v fs) = ap (field n v) (fields-pairs fs)

pairs_long : (v : Val) (ps : List (List ℕ × Val)) → Some ps ≡ pairs_in v → fields_longest (fields ps) ≡ longest v
pairs_long (struct fs) ps e =
    let same : ps ≡ pairs fs = cc in
    ap (λ qs. fields_longest (fields qs)) same ∙ ap fields_longest (fields-pairs fs)
pairs_long missing ps e = absurd cc
pairs_long null ps e = absurd cc
pairs_long (truth b) ps e = absurd cc
pairs_long (int m) ps e = absurd cc
pairs_long (time t) ps e = absurd cc
pairs_long (text s) ps e = absurd cc
pairs_long (list vs) ps e = absurd cc

items_long : (v : Val) (vs : List Val) → Some vs ≡ items_in v → vals_longest (vals vs) ≡ longest v
items_long (list ws) vs e =
    let same : vs ≡ items ws = cc in
    ap (λ xs. vals_longest (vals xs)) same ∙ ap vals_longest (vals-items ws)
items_long missing ps e = absurd cc
items_long null ps e = absurd cc
items_long (truth b) ps e = absurd cc
items_long (int m) ps e = absurd cc
items_long (time t) ps e = absurd cc
items_long (text s) ps e = absurd cc
items_long (struct vs) ps e = absurd cc

at_most : (A : Cell → ℕ) (r : Option Cell) (m n : ℕ) → m ≡ n → IfSome r (λ item. A item ≤ m) → IfSome r (λ item. A item ≤ n)
at_most A None m n e h = tt
at_most A (Some item) m n e h = omega (arith, e, h)

last_along : (r : Option Cell) (m n : ℕ) → m ≡ n → IfSome r (λ item. cell_last item ≡ m) → IfSome r (λ item. cell_last item ≡ n)
last_along None m n e h = tt
last_along (Some item) m n e h = h ∙ e

-- a value within pairs has no longer text than they have
within_pairs : (p : List ℕ × Val) (before after : List (List ℕ × Val)) → longest p.1 ≤ fields_longest (fields (before ++ p ∷ after))
within_pairs p [] after = omega arith
within_pairs p (q ∷ before) after = let less = within_pairs p before after in omega arith

stand_within : (table : Table) (label : ℕ) (ps : Left) (r : Option Cell) → IfSome r (λ cell. StandsIn (named table label (shown table cell)) (pairs_left table ps)) → IfSome r (λ cell. longest (shown table cell) ≤ fields_longest (fields (pairs_left table ps)))
stand_within table label ps None s = tt
stand_within table label ps (Some cell) s =
    let less = within_pairs (named table label (shown table cell)) s.before s.after in
    let same : fields_longest (fields (pairs_left table ps)) ≡ fields_longest (fields (s.before ++ named table label (shown table cell) ∷ s.after)) = ap (λ (qs : List (List ℕ × Val)). fields_longest (fields qs)) s.split in
    omega (arith, less, same)

-- the value of a pair
module _ (table : Table) (cell : Cell) (h : IsCellOf table cell) (ps : Left) (label : ℕ) (r : Option Cell) (g : FindsPair (fields_last ps) (λ t. pairs_left t ps) label r) (p : (t : Table) → Fits t cell → Some (pairs_left t ps) ≡ pairs_in (shown t cell)) (l : fields_last ps ≡ cell_last cell) where
  module _ (j : ℕ) (long : longest (shown table cell) ≤ j) where
    broad : Table
    broad = wide table cell h j long

    broad_fits : HasLast broad (cell_last cell)
    unfolding broad
    broad_fits = wide_fits table cell h j long

    left_fits : HasLast broad (fields_last ps)
    left_fits = broad_fits ∙ ap (λ (n : ℕ). n - 9) (sym l)

    pair_whole : IfSome r (IsCellOf table) × (denoted table r ≡ unwrap_or (option_map (shown broad) r) missing)
    unfolding broad
    pair_whole =
        whole_of table cell h j long r (last_along r (fields_last ps) (cell_last cell) l g.fits) (at_most (λ item. longest (shown (wide table cell h j long) item)) r _ _ (pairs_long _ _ (p (wide table cell h j long) (wide_fits table cell h j long))) (stand_within (wide table cell h j long) label ps r (g.stands (wide table cell h j long) left_fits)))

    pairs_are : Some (pairs_left broad ps) ≡ pairs_in (shown table cell)
    unfolding broad
    pairs_are = p (wide table cell h j long) (wide_fits table cell h j long) ∙ ap pairs_in (wide_same table cell h j long)

    label_is : (n : List ℕ) → length n < j → IsNamed label n table → IsLabelOf broad n label
    unfolding broad
    label_is n less named = record {
      is = λ _. longer_text table _ label n named.names;
      only = λ k e. one_number table k label n named.rise (shorter_text table _ k _ n (omega (arith, less, filler_size table cell h j long)) e) named.names;
    }

  pub pair_legal : IfSome r (IsCellOf table)
  pair_legal = (pair_whole (longest (shown table cell)) (omega arith)).0

  pub pair_value : (n : List ℕ) → IsNamed label n table → denoted table r ≡ step_of (name n) (shown table cell)
  pair_value n named =
      let j = longest (shown table cell) + suc (length n) in
      let long : longest (shown table cell) ≤ j = omega arith in
      (pair_whole j long).1
      ∙ find_step n (shown table cell) (pairs_left (broad j long) ps) (option_map (shown (broad j long)) r) (pairs_are j long) (g.value (broad j long) (left_fits j long) n (label_is j long n (omega arith) named))

-- an item
module _ (table : Table) (cell : Cell) (h : IsCellOf table cell) (vs : Cells) (k : ℕ) (r : Option Cell) (g : GivesItem vs k r) (p : (t : Table) → Fits t cell → Some (values_left t vs) ≡ items_in (shown t cell)) (l : items_last vs ≡ cell_last cell) where
  plenty : longest (shown table cell) ≤ longest (shown table cell)
  plenty = omega arith

  abbrev spread : Table
  spread = wide table cell h (longest (shown table cell)) plenty

  spread_fits : HasLast spread (cell_last cell)
  spread_fits = wide_fits table cell h (longest (shown table cell)) plenty

  values_fit : HasLast spread (items_last vs)
  values_fit = spread_fits ∙ ap (λ (n : ℕ). n - 9) (sym l)

  item_whole : IfSome r (IsCellOf table) × (denoted table r ≡ unwrap_or (option_map (shown spread) r) missing)
  item_whole =
      whole_of table cell h (longest (shown table cell)) plenty r (last_along r (items_last vs) (cell_last cell) l g.last) (at_most (λ item. longest (shown spread item)) r _ _ (items_long _ _ (p spread spread_fits)) (g.within spread values_fit))

  pub item_legal : IfSome r (IsCellOf table)
  item_legal = item_whole.0

  pub item_value : denoted table r ≡ step_of (at k) (shown table cell)
  item_value =
      item_whole.1
      ∙ item_step k (shown table cell) (values_left spread vs) (option_map (shown spread) r) (p spread spread_fits ∙ ap items_in (wide_same table cell h (longest (shown table cell)) plenty)) (g.value spread values_fit)
