-- What a content denotes.
use Rattle.std.specs.Prelude.{◌≡◌, ℕ, ◌≤◌, Option, Some, None}
use Rattle.time_meaning.specs.Moments.{IsTime}
use Rattle.value_meaning.specs.Val.{Val, null, truth, int, time, text, list, struct, vals, fields}
use Rattle.block_meaning.specs.Tables.{Table}
use Rattle.ion_cells.specs.declared.content.Content.{Content}
use Rattle.ion_cells.specs.declared.content.Content.TheVariants as contents
use Rattle.ion_cells.specs.Left.{name_of}
use Rattle.ion_cells.specs.Iterating.{items_last, values_left, fields_last, pairs_left}

-- the value under a table
abbrev pub content_value : Table → Content → Val
content_value table contents.Null = null
content_value table (contents.Bool b) = truth b
content_value table (contents.Int n) = int n
content_value table (contents.Time t) = time t
content_value table (contents.Symbol n) = text (name_of table n)
content_value table (contents.Text s) = text s.now
content_value table (contents.List cells) = list (vals (values_left table cells))
content_value table (contents.Struct pairs) = struct (fields (pairs_left table pairs))

-- the number, if a text's number is the content
abbrev pub symbol_in : Content → Option ℕ
symbol_in (contents.Symbol n) = Some n
symbol_in c = None

-- Times and numbers of texts stand in their ranges, and cells within are under the tables with the same last number.
abbrev pub IsWithin : ℕ → Content → Type 0
IsWithin last (contents.Time t) = IsTime t
IsWithin last (contents.Symbol n) = (10 ≤ n) × (n ≤ last)
IsWithin last (contents.List cells) = items_last cells ≡ last
IsWithin last (contents.Struct pairs) = fields_last pairs ≡ last
IsWithin last c = Unit {0}
