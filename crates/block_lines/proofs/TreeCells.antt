-- The cell of a list or a struct that a lane shows.
use Rattle.std.proofs.Common.{◌≡◌, ℕ, true, List, length, sym, ap, subst, ◌∙◌, arith}
use Rattle.std.specs.Borrow.{Bor}
use Rattle.block_meaning.specs.Tables.{Table, last_symbol}
use Rattle.block_meaning.specs.CellReading.{is_cell, cell_value, blank_table}
use Rattle.block_meaning.proofs.LastSymbol.{same_cell, length_blank}
use Rattle.answer_meaning.specs.Lines.{value_text}
use Rattle.ion_cells.specs.declared.cell.Cell.{Cell}
use Rattle.ion_cells.specs.Shown.{cell_bytes, shown}
use Rattle.lane_base.specs.declared.lanes.Look.{Look}
use Rattle.lane_base.specs.declared.lanes.Look.TheVariants.{Tree}
use Rattle.lane_base.specs.Shown.{IsTree, IsLegal, value_under}
use Rattle.lane_base.specs.Registers.{seen}

is_tree : (table : Table) (look : Look) (bytes : Bor (List ℕ)) → look ≡ Tree bytes → IsLegal table (seen look) → IsTree table bytes.now
is_tree table look bytes e h = subst (λ l. IsLegal table (seen l)) e h

pub blank_is_cell : (table : Table) (look : Look) (bytes : Bor (List ℕ)) (last : ℕ) → look ≡ Tree bytes → IsLegal table (seen look) → last ≡ last_symbol table
    → is_cell (blank_table last) bytes.now ≡ true
blank_is_cell table look bytes last e h l =
    let long : length (blank_table last) ≡ length table = length_blank last ∙ omega (arith, l) in
    same_cell (blank_table last) table bytes.now long ∙ (is_tree table look bytes e h).legal

pub text_of_tree : (table : Table) (look : Look) (bytes : Bor (List ℕ)) (cell : Cell) → look ≡ Tree bytes → cell_bytes cell ≡ bytes.now
    → value_text (shown table cell) ≡ value_text (value_under table (seen look))
unfolding shown
text_of_tree table look bytes cell e b = ap (λ l. value_text (cell_value table l)) b ∙ ap (λ l. value_text (value_under table (seen l))) (sym e)

-- the cell's value is the one that is shown
pub value_of_tree : (table : Table) (look : Look) (bytes : Bor (List ℕ)) (cell : Cell) → look ≡ Tree bytes → cell_bytes cell ≡ bytes.now
    → shown table cell ≡ value_under table (seen look)
unfolding shown
value_of_tree table look bytes cell e b = ap (λ l. cell_value table l) b ∙ ap (λ l. value_under table (seen l)) (sym e)
