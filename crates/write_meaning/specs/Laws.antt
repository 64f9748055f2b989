-- Laws of what is written.
use Rattle.std.specs.Prelude.{◌≡◌, ◌↔◌, ℕ, ◌≤◌, ◌+◌, List, [], length, sum_by}
use Rattle.value_meaning.specs.Val.{Val, Vals, vals}
use Rattle.value_meaning.specs.Sound.{IsSound, AreSound}
use Rattle.block_meaning.specs.Tables.{Table, TextsRise}
use Rattle.block_meaning.specs.Cells.{IsCell}
use Rattle.block_meaning.specs.Blocks.{IsBlock}
use Rattle.write_meaning.specs.BlockBytes.{block_bytes, MayBeBlock}
use Rattle.write_meaning.specs.BlockTables.{IsTableOf, IsAmong, placed_all}
use Rattle.write_meaning.specs.Weights.{weight}
use Rattle.write_meaning.specs.Encoding.{encode}
use Rattle.write_meaning.specs.Standing.{IsWritable, AreWritableRows, HasNames}

-- What is written for a value is its cell.
abbrev pub EncodingsAreCells : Type 0
EncodingsAreCells =
    (table : Table) (depth : ℕ) (v : Val) → TextsRise table → length table ≤ 16_000_000 → IsSound v
    → IsWritable depth v → HasNames table v → weight v ≤ 16_000_000 → IsCell table depth v (encode table v)

-- A value takes at most as many bytes as it weighs.
abbrev pub EncodingsAreLight : Type 0
EncodingsAreLight = (table : Table) (v : Val) → length (encode table v) ≤ weight v

-- What is written for rows is their block.
abbrev pub BlocksAreWritten : Type 0
BlocksAreWritten =
    (table : Table) (rows : List Val) → MayBeBlock table rows → IsBlock table rows (block_bytes table rows)

-- Rows have at most one table.
abbrev pub OneTable : Type 0
OneTable = (rows : Vals) (t u : Table) → IsTableOf rows t → IsTableOf rows u → t ≡ u

-- Putting texts into their places makes a table that rises and has just these texts.
abbrev pub PlacingIsExact : Type 0
PlacingIsExact =
    (ss : List (List ℕ)) (s : List ℕ) → TextsRise (placed_all ss []) × (IsAmong s (placed_all ss []) ↔ IsAmong s ss)

-- A block takes at most 32 bytes more than its rows weigh.
abbrev pub BlocksAreLight : Type 0
BlocksAreLight =
    (table : Table) (rows : List Val) → IsTableOf (vals rows) table
    → length (block_bytes table rows) ≤ sum_by weight rows + 32

-- Rows that may be written and aren't too many or too heavy may stand in one block under their table.
abbrev pub RowsMayBeBlocks : Type 0
RowsMayBeBlocks =
    (table : Table) (rows : List Val) → IsTableOf (vals rows) table → 1 ≤ length rows → length rows ≤ 65_536
    → AreSound (vals rows) → AreWritableRows rows → sum_by weight rows ≤ 1_000_000 → MayBeBlock table rows
