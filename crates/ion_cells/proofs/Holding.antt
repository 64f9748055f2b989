-- What a cell denotes, by its tag and its content.
use Rattle.std.proofs.Common.{◌≡◌, ℕ, suc, ◌^◌, ◌<◌, ◌≤◌, ℤ, pos, negsuc, Bool, true, false, cond, List, [], ◌∷◌, length, get_or, Option, Some, None, eqb, refl, sym, ap, subst, ◌∙◌, arith}
use Rattle.std.specs.Prelude.{is_some}
use Rattle.std.specs.Str.{IsUtf8}
use Rattle.std.proofs.lemmas.Str.{IsUtf8-from_is_utf8}
use Rattle.std.proofs.lemmas.Bool.Decides.{nat_tests}
use Rattle.value_meaning.specs.Val.{Val, Vals, Fields, null, truth, int, time, text, list, struct}
use Rattle.block_meaning.specs.Numbers.{magnitude}
use Rattle.block_meaning.specs.Timestamps.{timestamp}
use Rattle.block_meaning.specs.Tables.{Table, text_of}
use Rattle.block_meaning.specs.CellReading.{head_at, is_null_byte, one_byte, cell_to, cells_by, pairs_by, cell_value, is_cell, blank_table}
use Rattle.block_meaning.specs.Blocks.{only_payload}
use Rattle.block_meaning.proofs.Answered.{some_is, map_is}
use Rattle.block_meaning.proofs.LastSymbol.{length_blank}
use Rattle.ion_cells.specs.declared.tag.Tag.{Tag}
use Rattle.ion_cells.specs.declared.tag.Tag.TheVariants as tags
use Rattle.ion_cells.specs.Kinds.{kind_of}
use Rattle.ion_cells.specs.Standing.{HasLast}
use Rattle.ion_cells.specs.Tags.{tag_of_byte, tag_of_type, kind_of_tag, opening}
use Rattle.ion_cells.proofs.Payloads.{some_bytes, alone, has_part, Denotes, a_whole, a_negative, a_time, a_symbol, a_text, a_list, a_struct, denotes, ByteDenotes, a_null, a_truth, byte_denotes}
use Rattle.ion_cells.proofs.Openings.{found, by_head}
use Rattle.ion_cells.proofs.SymbolCells.{only_part, no_symbol}

-- the content denotes the value under the tag
abbrev pub Holds : Table → Tag → List ℕ → Val → Type 0
Holds table tags.Null p v = v ≡ null
Holds table tags.False p v = v ≡ truth false
Holds table tags.True p v = v ≡ truth true
Holds table tags.Whole p v = (length p ≤ 8) × (magnitude p < 2 ^ 63) × (v ≡ int (pos (magnitude p)))
Holds table tags.Negative p v = (length p ≤ 8) × ((n : ℕ) × (magnitude p ≡ suc n) × (n < 2 ^ 63) × (v ≡ int (negsuc n)))
Holds table tags.Time p v = (m : ℤ) × (timestamp p ≡ Some m) × (v ≡ time m)
Holds table tags.Symbol p v = (length p ≤ 4) × ((s : List ℕ) × (text_of table (magnitude p) ≡ Some s) × (v ≡ text s))
Holds table tags.Text p v = IsUtf8 p × (v ≡ text p)
Holds table tags.List p v = (vs : Vals) × (cells_by (cell_to table 127) (length p) p ≡ Some vs) × (v ≡ list vs)
Holds table tags.Struct p v = (fs : Fields) × (pairs_by (cell_to table 127) table 10 (length p) p ≡ Some fs) × (v ≡ struct fs)

-- the payload of a symbol cell
abbrev pub symbol_payload : Tag → List ℕ → Option (List ℕ)
symbol_payload tags.Symbol p = Some p
symbol_payload t p = None

null_tag : (h : ℕ) → is_null_byte h ≡ true → tags.Null ≡ tag_of_byte h
null_tag h n = go (eqb h 17) (eqb h 16) refl refl
  where
    is : (k : ℕ) → eqb h k ≡ true → h ≡ k
    is k e = grind (arith, nat_tests)

    go : (a b : Bool) → eqb h 17 ≡ a → eqb h 16 ≡ b → tags.Null ≡ tag_of_byte h
    go true b g k = absurd (let m : is_null_byte 17 ≡ true = rw (is 17 g) at n in cc)
    go false true g k = absurd (let m : is_null_byte 16 ≡ true = rw (is 16 k) at n in cc)
    go false false g k = rw (g, k) refl

module _ (table : Table) (p : List ℕ) (v : Val) where
  byte_holds : (h : ℕ) → ByteDenotes h v → Holds table (tag_of_byte h) p v
  byte_holds h (a_null n e) = subst (λ (t : Tag). Holds table t p v) (null_tag h n) e
  byte_holds h (a_truth true n e) = subst (λ (k : ℕ). Holds table (tag_of_byte k) p v) (sym n) e
  byte_holds h (a_truth false n e) = subst (λ (k : ℕ). Holds table (tag_of_byte k) p v) (sym n) e

  type_holds : (t : ℕ) → Denotes table t p v → Holds table (tag_of_type t) p v
  type_holds t (a_whole k short low e) = subst (λ (k : ℕ). Holds table (tag_of_type k) p v) (sym k) (short, low, e)
  type_holds t (a_negative k short n m low e) = subst (λ (k : ℕ). Holds table (tag_of_type k) p v) (sym k) (short, (n, m, low, e))
  type_holds t (a_time k m s e) = subst (λ (k : ℕ). Holds table (tag_of_type k) p v) (sym k) (m, s, e)
  type_holds t (a_symbol k short s n e) = subst (λ (k : ℕ). Holds table (tag_of_type k) p v) (sym k) (short, (s, n, e))
  type_holds t (a_text k u e) = subst (λ (k : ℕ). Holds table (tag_of_type k) p v) (sym k) (IsUtf8-from_is_utf8 p u, e)
  type_holds t (a_list k vs r e) = subst (λ (k : ℕ). Holds table (tag_of_type k) p v) (sym k) (vs, r, e)
  type_holds t (a_struct k fs r e) = subst (λ (k : ℕ). Holds table (tag_of_type k) p v) (sym k) (fs, r, e)

  type_symbol : (t : ℕ) → Denotes table t p v → cond (eqb t 7) (Some p) None ≡ symbol_payload (tag_of_type t) p
  type_symbol t (a_whole k short low e) = rw k refl
  type_symbol t (a_negative k short n m low e) = rw k refl
  type_symbol t (a_time k m s e) = rw k refl
  type_symbol t (a_symbol k short s n e) = rw k refl
  type_symbol t (a_text k u e) = rw k refl
  type_symbol t (a_list k vs r e) = rw k refl
  type_symbol t (a_struct k fs r e) = rw k refl

  byte_symbol : (h : ℕ) → ByteDenotes h v → None ≡ symbol_payload (tag_of_byte h) p
  byte_symbol h (a_null n e) = subst (λ (t : Tag). None ≡ symbol_payload t p) (null_tag h n) refl
  byte_symbol h (a_truth true n e) = rw n refl
  byte_symbol h (a_truth false n e) = rw n refl

  -- the kind by the tag
  pub kind_holds : (t : Tag) → Holds table t p v → kind_of_tag t ≡ kind_of (is_some (symbol_payload t p)) v
  kind_holds tags.Null h = rw h refl
  kind_holds tags.False h = rw h refl
  kind_holds tags.True h = rw h refl
  kind_holds tags.Whole h = rw h.2 refl
  kind_holds tags.Negative h = rw h.1.3 refl
  kind_holds tags.Time h = rw h.2 refl
  kind_holds tags.Symbol h = rw h.1.2 refl
  kind_holds tags.Text h = rw h.1 refl
  kind_holds tags.List h = rw h.2 refl
  kind_holds tags.Struct h = rw h.2 refl

byte_tag_is : (tag : Tag) (n : ℕ) (p bytes : List ℕ) → is_some (one_byte (get_or bytes 0 0)) ≡ true → 0 < length bytes → opening bytes ≡ found tag n p → tag_of_byte (get_or bytes 0 0) ≡ tag
unfolding opening
byte_tag_is tag n p [] k some e = absurd (omega arith)
byte_tag_is tag n p (b ∷ bs) k some e =
    let f : found (tag_of_byte b) 0 bs ≡ found tag n p = rw k at e in
    ap (λ (x : Tag × ℕ × List ℕ). x.0) (some_is _ _ f)

-- what the first bytes of a cell say is so
module _ (last : ℕ) (bytes : List ℕ) (legal : is_cell (blank_table last) bytes ≡ true) where
  record Is (table : Table) (tag : Tag) (n : ℕ) (p : List ℕ) : Type 0 where
    pub holds : Holds table tag p (cell_value table bytes)
    pub symbol : only_payload 7 bytes ≡ symbol_payload tag p

  is : (table : Table) → HasLast table last → (tag : Tag) (n : ℕ) (p : List ℕ) → opening bytes ≡ found tag n p → Is table tag n p
  is table fits tag n p e = go (is_some (one_byte (get_or bytes 0 0))) refl
    where
      go : (b : Bool) → is_some (one_byte (get_or bytes 0 0)) ≡ b → Is table tag n p
      go true k =
          let a = alone last bytes legal k in
          let d = byte_denotes (get_or bytes 0 0) (cell_value table bytes) (a.value table fits) in
          let same : tag_of_byte (get_or bytes 0 0) ≡ tag = byte_tag_is tag n p bytes k (some_bytes last bytes legal) e in
          record {
            holds = subst (λ (t : Tag). Holds table t p (cell_value table bytes)) same (byte_holds table p _ (get_or bytes 0 0) d);
            symbol = no_symbol last bytes legal a ∙ byte_symbol table p _ (get_or bytes 0 0) d ∙ ap (λ (t : Tag). symbol_payload t p) same;
          }
      go false k =
          let m = map_is (λ (x : ℕ × ℕ × List ℕ). (tag_of_type x.0, x.1, x.2)) (head_at bytes) _ (by_head bytes k ∙ e) in
          let t = m.0.0 in
          let same : tag_of_type t ≡ tag = ap (λ (x : Tag × ℕ × List ℕ). x.0) m.2 in
          let left : m.0.2 ≡ p = ap (λ (x : Tag × ℕ × List ℕ). x.2) m.2 in
          let q = has_part last bytes legal k t m.0.1 m.0.2 m.1 in
          let d = denotes table t m.0.2 (cell_value table bytes) (q.value table fits) in
          record {
            holds = subst (λ (l : List ℕ). Holds table tag l (cell_value table bytes)) left (subst (λ (t : Tag). Holds table t m.0.2 (cell_value table bytes)) same (type_holds table m.0.2 _ t d));
            symbol = only_part last bytes t 7 m.0.2 q ∙ type_symbol table m.0.2 _ t d ∙ (λ i. symbol_payload (same i) (left i));
          }

  pub holds_so : (table : Table) → HasLast table last → (tag : Tag) (n : ℕ) (p : List ℕ) → opening bytes ≡ found tag n p → Holds table tag p (cell_value table bytes)
  holds_so table fits tag n p e = (is table fits tag n p e).holds

  pub symbol_so : (tag : Tag) (n : ℕ) (p : List ℕ) → opening bytes ≡ found tag n p → only_payload 7 bytes ≡ symbol_payload tag p
  symbol_so tag n p e = (is (blank_table last) (length_blank last) tag n p e).symbol

  pub kind_so : (table : Table) → HasLast table last → (tag : Tag) (n : ℕ) (p : List ℕ) → opening bytes ≡ found tag n p → kind_of_tag tag ≡ kind_of (is_some (only_payload 7 bytes)) (cell_value table bytes)
  kind_so table fits tag n p e = rw (symbol_so tag n p e) (kind_holds table p (cell_value table bytes) tag (holds_so table fits tag n p e))
