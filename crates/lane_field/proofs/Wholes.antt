-- Bytes that are a cell under a table whose numbers have 32 bits.
use Rattle.std.proofs.Common.{◌≡◌, ℕ, ◌+◌, ◌-◌, ◌≤◌, ◌^◌, true, List, [], length, sym, ap, ◌∙◌, arith}
use Rattle.std.specs.Prelude.{replicate}
use Rattle.block_meaning.specs.Tables.{Table}
use Rattle.block_meaning.specs.CellReading.{is_cell, cell_value, blank_table}
use Rattle.block_meaning.proofs.LastSymbol.{same_cell, length_blank}
use Rattle.ion_cells.specs.declared.cell.Cell.{Cell}
use Rattle.ion_cells.specs.Shown.{cell_bytes, cell_last, shown}
use Rattle.lane_field.specs.CellsOf.{IsCellOf}
use Rattle.lane_field.specs.Steps.{IsUnder, IsUnderOne}
use Rattle.lane_field.proofs.Longer.{longer_is}
use Rattle.lane_field.proofs.OwnTables.{filled, length_filled}

pub whole_legal : (last : ℕ) (bytes : List ℕ) → IsUnderOne bytes → last + 1 ≡ 2 ^ 32 → is_cell (blank_table last) bytes ≡ true
whole_legal last bytes h e =
    let table = h.table in
    let room : length table ≤ last - 9 = omega (arith, e, h.is_under.few) in
    let longer = longer_is table (replicate (last - 9 - length table) []) bytes h.is_under.legal in
    sym (same_cell (filled (last - 9) [] table) (blank_table last) bytes (length_filled (last - 9) [] table room ∙ sym (length_blank last))) ∙ longer.0

pub whole_of : (last : ℕ) (bytes : List ℕ) (cell : Cell) → cell_bytes cell ≡ bytes → cell_last cell ≡ last → last + 1 ≡ 2 ^ 32 → (table : Table) → IsUnder table bytes → IsCellOf table cell
whole_of last bytes cell e f g table h =
    record { legal = ap (is_cell table) e ∙ h.legal; few = omega (arith, f, g, h.few) }

pub whole_value : (table : Table) (bytes : List ℕ) (cell : Cell) → cell_bytes cell ≡ bytes → shown table cell ≡ cell_value table bytes
unfolding shown
whole_value table bytes cell e = ap (cell_value table) e
