-- A cell of a table, under one of the tables that its readers speak of.
use Rattle.std.proofs.Common.{◌≡◌, ℕ, ◌-◌, ◌≤◌, List, [], ◌++◌, length, Bool, true, false, cond, ◌<◌, Option, None, Some, refl, sym, ap, subst, ◌∙◌, arith}
use Rattle.std.specs.Prelude.{replicate, IfSome}
use Rattle.std.proofs.lemmas.List.{length-append, length-replicate}
use Rattle.value_meaning.specs.Val.{Val}
use Rattle.block_meaning.specs.Tables.{Table}
use Rattle.block_meaning.specs.CellReading.{blank_table}
use Rattle.block_meaning.proofs.LastSymbol.{same_cell, length_blank}
use Rattle.ion_cells.specs.declared.cell.Cell.{Cell}
use Rattle.ion_cells.specs.Shown.{cell_bytes, cell_last, shown, Fits}
use Rattle.lane_field.specs.CellsOf.{IsCellOf, denoted, AreCellsOf, cell_in, cell_within, no_cell}
use Rattle.lane_field.specs.declared.cells.CellLanes.{CellLanes}
use Rattle.lane_base.specs.Bits.{has}
use Rattle.lane_field.proofs.Longer.{longer_is}

-- the table, filled up to so many texts
abbrev pub filled : ℕ → List ℕ → Table → Table
filled n filler table = table ++ replicate (n - length table) filler

pub length_filled : (n : ℕ) (filler : List ℕ) (table : Table) → length table ≤ n → length (filled n filler table) ≡ n
length_filled n filler table h = omega (arith, length-append table (replicate (n - length table) filler), length-replicate (n - length table) filler)

pub record Own (table : Table) (cell : Cell) : Type 0 where
  pub wide : Table
  pub fits : Fits wide cell
  pub same : shown wide cell ≡ shown table cell

pub own : (table : Table) (cell : Cell) → IsCellOf table cell → Own table cell
unfolding shown
own table cell h =
    let n = cell_last cell - 9 in
    record {
      wide = filled n [] table;
      fits = length_filled n [] table h.few;
      same = (longer_is table (replicate (n - length table) []) (cell_bytes cell) h.legal).1;
    }

-- what a reader of a cell answers speaks of each table of the cell
pub of_cell : {X : Type 0} (g : Val → X) (o : Option Cell) (cell : Cell) (r : X) → o ≡ Some cell → ((t : Table) → Fits t cell → r ≡ g (shown t cell)) → (table : Table) → IfSome o (IsCellOf table) → r ≡ g (denoted table o)
of_cell {X} g o cell r e f table h =
    let P : Option Cell → Type 0 = λ q. IfSome q (IsCellOf table) → r ≡ g (denoted table q) in
    subst P (sym e) (λ k. let w = own table cell k in f w.wide w.fits ∙ ap g w.same) h

-- the cell of a lane of the mask is one of the table
pub within : (table : Table) (mask : ℕ) (lanes : CellLanes) → AreCellsOf table mask lanes → (i : ℕ) → i < 16 → IfSome (cell_within mask lanes i) (IsCellOf table)
within table mask lanes h i k = go (has mask i) refl
  where
    go : (b : Bool) → has mask i ≡ b → IfSome (cond b (cell_in lanes i) no_cell) (IsCellOf table)
    go true e = h.lane i k e
    go false e = tt

-- a cell that fits a table is one of it
fits_of : (table : Table) (cell : Cell) → Fits table cell → IsCellOf table cell
unfolding cell_bytes cell_last
fits_of table cell h =
    let same : length (blank_table cell.last) ≡ length table = length_blank cell.last ∙ sym h in
    record {
      legal = sym (same_cell (blank_table cell.last) table cell.bytes.now same) ∙ cell.legal;
      few = omega (arith, h);
    }

pub some_fits : (o : Option Cell) → IfSome o (λ c. (table : Table) → Fits table c → IsCellOf table c)
some_fits None = tt
some_fits (Some cell) = λ table h. fits_of table cell h
