-- What the marker, the table and the rows make together.
use Rattle.std.proofs.Common.{◌≡◌, ℕ, ◌+◌, ◌^◌, ◌≤◌, false, List, ◌++◌, length, map, drop, Some, ltb, refl, sym, ap, ◌∙◌, arith}
use Rattle.std.proofs.lemmas.List.{length-map}
use Rattle.std.proofs.lemmas.Bool.{le-ltb}
use Rattle.value_meaning.specs.Val.{Val}
use Rattle.block_meaning.specs.declared.TheConstants.{MOST_BLOCK_BYTES}
use Rattle.block_meaning.specs.Tables.{Table}
use Rattle.block_meaning.specs.Blocks.{IsTable, IsBlock, IsDamaged, behind_marker, table_at, rows_in, block_in}
use Rattle.block_meaning.specs.Laws.{HasFront}
use Rattle.block_meaning.proofs.Answered.{some_is}
use Rattle.block_meaning.proofs.TableReading.{tables_again}
use Rattle.block_meaning.proofs.BlockReading.{AreBlockRows, rows_again, blocks_read}
use Rattle.ion_cells.specs.declared.cell.Cell.{Cell}
use Rattle.ion_cells.specs.Shown.{shown}
use Rattle.block_file.specs.Rows.{AreRowsOf, NoRowsOf}

reads_block : (table : Table) (rows : List Val) (bytes rest left : List ℕ) → length bytes ≤ MOST_BLOCK_BYTES → Some rest ≡ behind_marker bytes → table_at rest ≡ Some (table, left) → rows_in table left ≡ Some rows → block_in bytes ≡ Some (table, rows)
unfolding block_in
reads_block table rows bytes rest left short marked read rowed =
    let fits : ltb MOST_BLOCK_BYTES (length bytes) ≡ false = le-ltb _ _ short in
    let behind = sym marked in
    rw (fits, behind, read, rowed) refl

pub opened : (table t : Table) (r : List Val) (cells : List Cell) (bytes rest left : List ℕ) (count : ℕ) → length bytes ≤ MOST_BLOCK_BYTES → Some rest ≡ behind_marker bytes → table_at rest ≡ Some (table, left) → AreRowsOf table left count cells → t ≡ table → r ≡ map (shown table) cells → IsBlock t r bytes × (length r ≡ count)
opened table t r cells bytes rest left count short marked read are e f =
    let block = (blocks_read table (map (shown table) cells) bytes).0 (reads_block table (map (shown table) cells) bytes rest left short marked read are.reads) in
    rw (e, f) (block, length-map cells (shown table) ∙ are.long)

pub bad_table : (bytes rest : List ℕ) (count : ℕ) → Some rest ≡ behind_marker bytes → ((table : Table) (left : List ℕ) → HasFront (IsTable table) rest left → ⊥) → IsDamaged count bytes
bad_table bytes rest count marked none table rows long block =
    let at : rest ≡ block.table_bytes ++ block.row_bytes = some_is _ _ (marked ∙ ap behind_marker block.parts) in
    none table block.row_bytes (block.table_bytes, at, block.is_table)

abbrev with_left : Table → List ℕ → Rattle.std.proofs.Common.Option (Table × List ℕ)
with_left table left = Some (table, left)

pub bad_rows : (table : Table) (bytes rest left : List ℕ) (count : ℕ) → Some rest ≡ behind_marker bytes → table_at rest ≡ Some (table, left) → NoRowsOf table left count → IsDamaged count bytes
bad_rows table bytes rest left count marked read none t rows long block =
    let at : rest ≡ block.table_bytes ++ block.row_bytes = some_is _ _ (marked ∙ ap behind_marker block.parts) in
    let same = some_is _ _ (sym read ∙ ap table_at at ∙ tables_again t block.table_bytes block.row_bytes block.is_table) in
    let table-is : t ≡ table = sym (ap (λ (x : Table × List ℕ). x.0) same) in
    let left-is : block.row_bytes ≡ left = sym (ap (λ (x : Table × List ℕ). x.1) same) in
    let are : AreBlockRows rows = record { some = block.some; few = block.few; structs = block.structs } in
    let rowed = rows_again t block.row_bytes rows are block.cells in
    none rows (ap (λ (x : Table). rows_in x left) (sym table-is) ∙ ap (rows_in t) (sym left-is) ∙ rowed) long
