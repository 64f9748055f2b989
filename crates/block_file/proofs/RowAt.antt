-- A row at a place, and none there.
use Rattle.std.proofs.Common.{◌≡◌, ℕ, ◌+◌, Bool, true, false, List, ◌++◌, length, take, drop, Some, refl, sym, ap, ◌∙◌}
use Rattle.std.proofs.lemmas.List.{take-append-drop, drop-drop}
use Rattle.value_meaning.specs.Val.{Val, missing, null, truth, int, time, text, list, struct}
use Rattle.block_meaning.specs.Tables.{Table}
use Rattle.block_meaning.specs.Cells.{IsCell}
use Rattle.block_meaning.specs.CellReading.{cell_to}
use Rattle.block_meaning.specs.Blocks.{is_struct}
use Rattle.block_meaning.proofs.Answered.{some_is}
use Rattle.block_meaning.proofs.NestedReading.{reads_to}
use Rattle.ion_cells.specs.declared.cell.Cell.{Cell}
use Rattle.ion_cells.specs.declared.kind.Kind.TheVariants as kinds
use Rattle.ion_cells.specs.Kinds.{kind_of}
use Rattle.ion_cells.specs.Standing.{HasLast, StandsNowhere}
use Rattle.ion_cells.specs.Shown.{Fits, shown, cell_bytes, cell_last}
use Rattle.block_file.specs.Rows.{IsRowAt, NoRowAt}

pub struct_kind : (symbol : Bool) (v : Val) → kinds.Struct ≡ kind_of symbol v → is_struct v ≡ true
struct_kind symbol missing e = cc
struct_kind symbol null e = cc
struct_kind symbol (truth b) e = cc
struct_kind symbol (int n) e = cc
struct_kind symbol (time t) e = cc
struct_kind true (text s) e = cc
struct_kind false (text s) e = cc
struct_kind symbol (list vs) e = cc
struct_kind symbol (struct fs) e = refl

kind_struct : (symbol : Bool) (v : Val) → is_struct v ≡ true → kind_of symbol v ≡ kinds.Struct
kind_struct symbol missing e = cc
kind_struct symbol null e = cc
kind_struct symbol (truth b) e = cc
kind_struct symbol (int n) e = cc
kind_struct symbol (time t) e = cc
kind_struct symbol (text s) e = cc
kind_struct symbol (list vs) e = cc
kind_struct symbol (struct fs) e = refl

-- the cell that stands at a place is read there
cell_reads : (table : Table) (bytes : List ℕ) (at : ℕ) (c : Cell) → IsCell table 0 (shown table c) (cell_bytes c) → cell_bytes c ≡ take (length (cell_bytes c)) (drop at bytes) → cell_to table 128 (drop at bytes) ≡ Some (shown table c, drop (at + length (cell_bytes c)) bytes)
cell_reads table bytes at c is stands =
    let n = length (cell_bytes c) in
    let again = (reads_to table 128 0 refl).again (shown table c) (cell_bytes c) (drop (at + n) bytes) is in
    let parts : drop at bytes ≡ cell_bytes c ++ drop (at + n) bytes = sym (take-append-drop n (drop at bytes)) ∙ (λ i. sym stands i ++ drop-drop n at bytes i) in
    ap (cell_to table 128) parts ∙ again

pub row_there : (table : Table) (bytes : List ℕ) (at last : ℕ) (c : Cell) (symbol : Bool) → cell_last c ≡ last → HasLast table last → IsCell table 0 (shown table c) (cell_bytes c) → cell_bytes c ≡ take (length (cell_bytes c)) (drop at bytes) → (Fits table c → kinds.Struct ≡ kind_of symbol (shown table c)) → IsRowAt table bytes at c
row_there table bytes at last c symbol same has is stands kind =
    let fits : Fits table c = rw same has in
    record { fits = fits; is_struct = struct_kind symbol (shown table c) (kind fits); reads = cell_reads table bytes at c is stands }

pub no_struct : (table : Table) (bytes : List ℕ) (at last : ℕ) (c : Cell) (symbol : Bool) → cell_last c ≡ last → HasLast table last → IsCell table 0 (shown table c) (cell_bytes c) → cell_bytes c ≡ take (length (cell_bytes c)) (drop at bytes) → (Fits table c → kind_of symbol (shown table c) ≡ kinds.Struct → ⊥) → NoRowAt table bytes at
no_struct table bytes at last c symbol same has is stands kind v rest e s =
    let fits : Fits table c = rw same has in
    let one = some_is _ _ (sym (cell_reads table bytes at c is stands) ∙ e) in
    let value : shown table c ≡ v = ap (λ (x : Val × List ℕ). x.0) one in
    kind fits (kind_struct symbol (shown table c) (rw value s))

pub no_cell : (table : Table) (bytes : List ℕ) (at last : ℕ) → HasLast table last → StandsNowhere last 0 bytes at → NoRowAt table bytes at
no_cell table bytes at last has none v rest e s = none table has v rest ((reads_to table 128 0 refl).takes (drop at bytes) v rest e)
