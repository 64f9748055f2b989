-- Blocks, symbol tables and cells, written by hand, and what they are.
use Rattle.std.specs.Prelude.{◌≡◌, ℕ, zero, suc, ◌+◌, ◌/◌, ◌%◌, pos, List, [], ◌∷◌, map, length, codes, Option, Some, None, is_some, true, false}
use Rattle.value_meaning.specs.Val.{Val, null, truth, int, time, text, list, struct, no_vals, val, no_fields, field}
use Rattle.block_meaning.specs.Tables.{Table}
use Rattle.block_meaning.specs.CellReading.{cell_to}
use Rattle.block_meaning.specs.Blocks.{table_at, block_in}
use Rattle.block_meaning.specs.declared.TheConstants.{MOST_DEPTH}

abbrev Read : Type 0
Read = Option (Table × List Val)

abbrev of : Table → List Val → Read
of table rows = Some (table, rows)

abbrev damaged : Read
damaged = None

-- a struct of the one pair `a`
abbrev a : Val → Val
a v = struct (field (codes "a") v no_fields)

-- the marker, and the table of `a` and `b`
abbrev begun : List ℕ → List ℕ
begun rows =
    0xE0 ∷ 0x01 ∷ 0x00 ∷ 0xEA ∷ 0xE9 ∷ 0x81 ∷ 0x83 ∷ 0xD6 ∷ 0x87 ∷ 0xB4 ∷ 0x81 ∷ 0x61 ∷ 0x81 ∷ 0x62 ∷ rows

-- bytes, and the table and the rows of which they are the block
abbrev pub blocks : List (List ℕ × Read)
blocks =
    -- `{"a":1,"b":"x"}`, `{"a":null}`, `{"b":7}`
    (
      begun (0xD6 ∷ 0x8A ∷ 0x21 ∷ 0x01 ∷ 0x8B ∷ 0x81 ∷ 0x78 ∷ 0xD2 ∷ 0x8A ∷ 0x0F ∷ 0xD3 ∷ 0x8B ∷ 0x21 ∷ 0x07 ∷ []),
      of (codes "a" ∷ codes "b" ∷ [])
          (struct (field (codes "a") (int (pos 1)) (field (codes "b") (text (codes "x")) no_fields))
          ∷ a null ∷ struct (field (codes "b") (int (pos 7)) no_fields) ∷ []),
    )
    -- the marker alone
    ∷ (0xE0 ∷ 0x01 ∷ 0x00 ∷ 0xEA ∷ [], damaged)
    -- labels that fall
    ∷ (begun (0xD6 ∷ 0x8B ∷ 0x81 ∷ 0x78 ∷ 0x8A ∷ 0x21 ∷ 0x01 ∷ []), damaged)
    -- no row
    ∷ (begun [], damaged) ∷ []

-- the table at the front, and what follows it
abbrev pub tables : List (List ℕ × Option (Table × List ℕ))
tables = (0xE5 ∷ 0x81 ∷ 0x83 ∷ 0xD2 ∷ 0x87 ∷ 0xB0 ∷ [], Some ([], [])) ∷ []

abbrev FrontCell : Type 0
FrontCell = Option (Val × List ℕ)

-- the cell that is read at the front under the table of the one text `a`
abbrev pub at_a : List ℕ → FrontCell
at_a bytes = cell_to (codes "a" ∷ []) MOST_DEPTH bytes

abbrev the : Val → FrontCell
the v = Some (v, [])

abbrev no_cell : FrontCell
no_cell = None

abbrev pub cells : List (List ℕ × FrontCell)
cells =
    -- minus zero
    (0xD3 ∷ 0x8A ∷ 0x31 ∷ 0x00 ∷ [], no_cell)
    -- 2024-02-29T23:59:59.999999Z
    ∷ (
      0xDE ∷ 0x8E ∷ 0x8A ∷ 0x6C ∷ 0x80 ∷ 0x0F ∷ 0xE8 ∷ 0x82 ∷ 0x9D ∷ 0x97 ∷ 0xBB ∷ 0xBB ∷ 0xC6 ∷ 0x0F ∷ 0x42 ∷ 0x3F ∷ [],
      the (a (time (pos 1_709_251_199_999_999))),
    )
    -- a typed null
    ∷ (0xD2 ∷ 0x8A ∷ 0x2F ∷ [], the (a null))
    -- `[1,true,null]`
    ∷ (
      0xD6 ∷ 0x8A ∷ 0xB4 ∷ 0x21 ∷ 0x01 ∷ 0x11 ∷ 0x0F ∷ [],
      the (a (list (val (int (pos 1)) (val (truth true) (val null no_vals))))),
    )
    -- a float
    ∷ (0xD2 ∷ 0x8A ∷ 0x40 ∷ [], no_cell)
    -- a length that doesn't end, and one of five bytes
    ∷ (0xDE ∷ 0xFF ∷ [], no_cell)
    ∷ (0xDE ∷ 0x00 ∷ 0x00 ∷ 0x00 ∷ 0x00 ∷ 0x84 ∷ 0x8A ∷ 0x21 ∷ 0x01 ∷ 0x00 ∷ [], no_cell) ∷ []

-- so many lists, each in the next, behind a first one
abbrev pub lists : ℕ → List ℕ
lists zero = 0xB0 ∷ []
lists (suc n) = let within = lists n in 0xBE ∷ (length within / 128) ∷ (128 + length within % 128) ∷ within

-- a row of one pair whose value is one list more than that, each in the next
abbrev pub row_of : ℕ → List ℕ
row_of n = let within = lists n in 0xDE ∷ ((1 + length within) / 128) ∷ (128 + (1 + length within) % 128) ∷ 0x8A ∷ within

-- What is read of the bytes is what is written beside them.
pub record ExamplesAreReadSo : Type 0 where
  pub blocks_so : map (λ x. block_in x.0) blocks ≡ map (λ x. x.1) blocks
  pub tables_so : map (λ x. table_at x.0) tables ≡ map (λ x. x.1) tables
  pub cells_so : map (λ x. at_a x.0) cells ≡ map (λ x. x.1) cells
  pub deepest : is_some (at_a (row_of 126)) ≡ true
  pub too_deep : is_some (at_a (row_of 127)) ≡ false
