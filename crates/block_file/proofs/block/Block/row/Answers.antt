use Rattle.std.proofs.Common.{◌≡◌, ℕ, List, length, ap, subst, arith, true, Some}
use Rattle.std.specs.Prelude.{slice_get}
use Rattle.std.proofs.lemmas.List.{length-map}
use Rattle.value_meaning.specs.Val.{Val}
use Rattle.block_meaning.specs.Blocks.{is_struct}
use Rattle.ion_cells.specs.Shown.{Fits, shown}
use Rattle.block_file.proofs.RowCells.{row_cell}
use Rattle.block_file.proofs.block.Block.row.Goals as goal

abbrev Seen : Type 0
Seen = List (List ℕ) × List Val

pub returns-clause-fits : goal.returns-clause-fits
returns-clause-fits c =
    let rows = ap (λ (p : Seen). length p.1) c.self.view_is in
    let r = row_cell c.self.inside.table c.self.inside.rows.items c.args.at c.index.result.now (omega (arith, rows, length-map c.self.inside.rows.items (shown c.self.inside.table))) c.index.ensures c.self.invariant.rows in
    subst (λ (p : Seen). Fits p.0 c.index.result.now) c.self.view_is r.fits

pub returns-clause-row : goal.returns-clause-row
returns-clause-row c =
    let rows = ap (λ (p : Seen). length p.1) c.self.view_is in
    let r = row_cell c.self.inside.table c.self.inside.rows.items c.args.at c.index.result.now (omega (arith, rows, length-map c.self.inside.rows.items (shown c.self.inside.table))) c.index.ensures c.self.invariant.rows in
    subst (λ (p : Seen). slice_get p.1 c.args.at ≡ Some (shown p.0 c.index.result.now)) c.self.view_is r.shows

pub returns-clause-is_struct : goal.returns-clause-is_struct
returns-clause-is_struct c =
    let rows = ap (λ (p : Seen). length p.1) c.self.view_is in
    let r = row_cell c.self.inside.table c.self.inside.rows.items c.args.at c.index.result.now (omega (arith, rows, length-map c.self.inside.rows.items (shown c.self.inside.table))) c.index.ensures c.self.invariant.rows in
    subst (λ (p : Seen). is_struct (shown p.0 c.index.result.now) ≡ true) c.self.view_is r.is_struct
