-- How a block is written.
use Rattle.std.specs.Prelude.{◌≡◌, ℕ, ◌≤◌, ◌^◌, List, [], ◌∷◌, ◌++◌, length, sum_by}
use Rattle.std.specs.Str.{IsUtf8}
use Rattle.value_meaning.specs.Val.{Val, vals}
use Rattle.value_meaning.specs.Sound.{AreSound}
use Rattle.block_meaning.specs.Tables.{Table, TextsRise}
use Rattle.block_meaning.specs.Blocks.{marker, AreRows}
use Rattle.write_meaning.specs.Weights.{weight}
use Rattle.write_meaning.specs.Encoding.{var_uint_bytes, cell_bytes, encode_items}
use Rattle.write_meaning.specs.Standing.{AreWritable, HaveNames}

-- string cells of these texts, end to end
abbrev pub texts_bytes : Table → List ℕ
texts_bytes [] = []
texts_bytes (t ∷ ts) = cell_bytes 8 t ++ texts_bytes ts

-- the pair 7, a list of the texts
unfoldable pub listing_bytes : Table → List ℕ
listing_bytes table = var_uint_bytes 7 ++ cell_bytes 11 (texts_bytes table)

-- one byte of annotation, which is 3, on a struct of that pair
unfoldable pub content_bytes : Table → List ℕ
content_bytes table = var_uint_bytes 1 ++ (var_uint_bytes 3 ++ cell_bytes 13 (listing_bytes table))

unfoldable pub table_bytes : Table → List ℕ
table_bytes table = cell_bytes 14 (content_bytes table)

unfoldable pub block_bytes : Table → List Val → List ℕ
block_bytes table rows = marker ++ (table_bytes table ++ encode_items table (vals rows))

abbrev pub AreTextual : Table → Type 0
AreTextual [] = Unit {0}
AreTextual (t ∷ ts) = IsUtf8 t × AreTextual ts

-- The rows may stand in one block under the table.
pub record MayBeBlock (table : Table) (rows : List Val) : Type 0 where
  pub rise : TextsRise table
  pub textual : AreTextual table
  pub some : 1 ≤ length rows
  pub few : length rows ≤ 65_536
  pub structs : AreRows rows
  pub sound : AreSound (vals rows)
  pub writable : AreWritable 0 (vals rows)
  pub names : HaveNames table (vals rows)
  pub light : sum_by weight rows ≤ 1_000_000
  pub short : length (block_bytes table rows) ≤ 2 ^ 20
