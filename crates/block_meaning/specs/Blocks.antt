-- Blocks: the marker of Ion 1.0, one symbol table, and the cells of the rows, end to end.
use Rattle.std.specs.Prelude.{◌≡◌, ℕ, zero, suc, ◌+◌, ◌≤◌, Bool, true, false, ◌&&◌, ◌||◌, List, [], ◌∷◌, ◌++◌, length, take, drop, Option, Some, None, nat_lt, ◌==◌, if◌then◌else◌}
use Rattle.std.specs.Option.{option_map, option_and_then}
use Rattle.std.specs.Ordering.{nat_cmp, is_lt}
use Rattle.std.specs.Cmp.Lexicographic.{slice_cmp}
use Rattle.std.specs.Str.{IsUtf8, is_utf8}
use Rattle.value_meaning.specs.Val.{Val, struct, vals, items}
use Rattle.block_meaning.specs.declared.TheConstants.{MOST_BLOCK_BYTES, MOST_BLOCK_ROWS, MOST_DEPTH}
use Rattle.block_meaning.specs.Numbers.{IsVarUInt, var_uint}
use Rattle.block_meaning.specs.Tables.{Table, TextsRise}
use Rattle.block_meaning.specs.Cells.{HasPayload, AreCells}
use Rattle.block_meaning.specs.CellReading.{head_at, cells_by, cell_to}

abbrev pub marker : List ℕ
marker = 224 ∷ 1 ∷ 0 ∷ 234 ∷ []

-- string cells of these texts, end to end
abbrev pub AreTexts : Table → List ℕ → Type 0
AreTexts [] bytes = bytes ≡ []
AreTexts (t ∷ ts) bytes =
    (first : List ℕ) × (rest : List ℕ) × (bytes ≡ first ++ rest) × HasPayload 8 t first × IsUtf8 t × AreTexts ts rest

-- The bytes are a symbol table: an annotation, type 14, of the one symbol 3 on a struct of the one pair 7, a list of the texts.
pub record IsTable (table : Table) (bytes : List ℕ) : Type 0 where
  pub content : List ℕ
  pub outer : HasPayload 14 content bytes
  pub count : List ℕ
  pub annotation : List ℕ
  pub cell : List ℕ
  pub parts : content ≡ count ++ (annotation ++ cell)
  pub counts : IsVarUInt count (length annotation)
  pub annotates : IsVarUInt annotation 3
  pub pair : List ℕ
  pub holds : HasPayload 13 pair cell
  pub label : List ℕ
  pub listed : List ℕ
  pub pair_parts : pair ≡ label ++ listed
  pub labels : IsVarUInt label 7
  pub texts : List ℕ
  pub lists : HasPayload 11 texts listed
  pub stand : AreTexts table texts
  pub rise : TextsRise table

abbrev pub is_struct : Val → Bool
is_struct (struct fs) = true
is_struct v = false

abbrev pub AreRows : List Val → Type 0
AreRows [] = Unit {0}
AreRows (v ∷ vs) = (is_struct v ≡ true) × AreRows vs

-- The bytes are a block of these rows.
pub record IsBlock (table : Table) (rows : List Val) (bytes : List ℕ) : Type 0 where
  pub short : length bytes ≤ MOST_BLOCK_BYTES
  pub some : 1 ≤ length rows
  pub few : length rows ≤ MOST_BLOCK_ROWS
  pub structs : AreRows rows
  pub table_bytes : List ℕ
  pub row_bytes : List ℕ
  pub parts : bytes ≡ marker ++ (table_bytes ++ row_bytes)
  pub is_table : IsTable table table_bytes
  pub cells : AreCells table 0 (vals rows) row_bytes

-- Bytes are damaged for a count of rows where no block of so many rows stands with them.
abbrev pub IsDamaged : ℕ → List ℕ → Type 0
IsDamaged n bytes = (table : Table) (rows : List Val) → length rows ≡ n → IsBlock table rows bytes → ⊥

-- The same by reading from left to right.

-- the payload of a cell of this type at the front, and what follows it
unfoldable pub payload_of : ℕ → List ℕ → Option (List ℕ × List ℕ)
payload_of t bytes = option_and_then (λ x. if x.0 == t then Some (take x.1 x.2, drop x.1 x.2) else None) (head_at bytes)

-- the payload of bytes that are one cell of this type
unfoldable pub only_payload : ℕ → List ℕ → Option (List ℕ)
only_payload t bytes = option_and_then (λ p. if length p.1 == 0 then Some p.0 else None) (payload_of t bytes)

-- the cells of the texts in the struct of the one pair 7
unfoldable pub listed_in : List ℕ → Option (List ℕ)
listed_in cell =
    option_and_then (λ pair. option_and_then (λ l. if l.0 == 7 then only_payload 11 l.1 else None) (var_uint pair)) (only_payload 13 cell)

-- the cells of the texts in the content of a table
unfoldable pub texts_in : List ℕ → Option (List ℕ)
texts_in content =
    option_and_then (λ count. option_and_then (λ note.
    if note.0 == 3 && (length count.1 == length note.1 + count.0) then listed_in note.1 else None) (var_uint count.1)) (var_uint content)

abbrev pub is_above : Option (List ℕ) → List ℕ → Bool
is_above None t = true
is_above (Some s) t = is_lt (slice_cmp nat_cmp s t)

-- all of the bytes, as string cells whose texts rise above the text before, if there is one
abbrev pub texts_by : Option (List ℕ) → ℕ → List ℕ → Option Table
texts_by before fuel [] = Some []
texts_by before zero (b ∷ bs) = None
texts_by before (suc fuel) (b ∷ bs) =
    option_and_then (λ p. if is_utf8 p.0 && is_above before p.0 then option_map (λ ts. p.0 ∷ ts) (texts_by (Some p.0) fuel p.1) else None)
    (payload_of 8 (b ∷ bs))

-- the table at the front, and what follows it
unfoldable pub table_at : List ℕ → Option (Table × List ℕ)
table_at bytes =
    option_and_then (λ p. option_and_then (λ cells. option_map (λ table. (table, p.1)) (texts_by None (length cells) cells)) (texts_in p.0))
    (payload_of 14 bytes)

abbrev pub all_structs : List Val → Bool
all_structs [] = true
all_structs (v ∷ vs) = is_struct v && all_structs vs

-- the values, where they are structs, and as many as a block may have
abbrev pub as_rows : List Val → Option (List Val)
as_rows vs = if (length vs == 0) || nat_lt MOST_BLOCK_ROWS (length vs) then None else (if all_structs vs then Some vs else None)

unfoldable pub rows_in : Table → List ℕ → Option (List Val)
rows_in table bytes = option_and_then (λ vs. as_rows (items vs)) (cells_by (cell_to table MOST_DEPTH) (length bytes) bytes)

-- what follows the marker
abbrev pub behind_marker : List ℕ → Option (List ℕ)
behind_marker (a ∷ b ∷ c ∷ d ∷ rest) = if (a == 224) && (b == 1) && (c == 0) && (d == 234) then Some rest else None
behind_marker bytes = None

-- the table and the rows of bytes that are a block
unfoldable pub block_in : List ℕ → Option (Table × List Val)
block_in bytes =
    if nat_lt MOST_BLOCK_BYTES (length bytes) then None
    else option_and_then (λ rest. option_and_then (λ t. option_map (λ rows. (t.0, rows)) (rows_in t.0 t.1)) (table_at rest)) (behind_marker bytes)
