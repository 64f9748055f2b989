-- What one line of JSON comes to, apart from the lines around it.
use Rattle.std.specs.Prelude.{ℕ, ◌^◌, List, length, Bool, ◌&&◌, ◌||◌, ◌==◌, not, nat_lt, Option, Some, None, if◌then◌else◌}
use Rattle.std.specs.List.{list_all}
use Rattle.std.specs.Str.{is_utf8}
use Rattle.serde_json.specs.Data.{Data, Members}
use Rattle.serde_json.specs.Read.{read}
use Rattle.serde_json.specs.Find.{as_object}
use Rattle.value_meaning.specs.Val.{Val}
use Rattle.write_meaning.specs.Weights.{weight}
use Rattle.pack_meaning.specs.declared.TheConstants.{MOST_LINE_BYTES}
use Rattle.pack_meaning.specs.declared.LineWhy.{LineWhy}
use Rattle.pack_meaning.specs.declared.LineWhy.TheVariants.{TooLong, NotJson, NotObject, Number, TooLarge}
use Rattle.pack_meaning.specs.Rows.{row_in, member_fractions}

-- the field whose texts may spell times, the most weight of a block's rows, and whether fractions are dropped
pub record Settings : Type 0 where
  pub time_field : Option (List ℕ)
  pub most : ℕ
  pub drops : Bool

-- no row, a reason, or a row and how many fractions were dropped
pub data Line : Type 0 where
  blank : Line
  refused : LineWhy → Line
  row : Val → ℕ → Line

-- a space, a tab or a carriage return
abbrev pub is_blank : ℕ → Bool
is_blank b = b == 32 || b == 9 || b == 13

-- the row, if it fits into a block
abbrev pub fitting : ℕ → Val → ℕ → Line
fitting most v dropped = if nat_lt most (weight v) then refused TooLarge else row v dropped

-- the row of an object with these members, unless it has fractions that aren't dropped
abbrev pub of_members : Settings → Members → Line
of_members s ms =
    if not s.drops && nat_lt 0 (member_fractions ms) then refused Number
    else fitting s.most (row_in s.time_field ms) (member_fractions ms)

abbrev pub of_object : Settings → Option Members → Line
of_object s None = refused NotObject
of_object s (Some ms) = of_members s ms

abbrev pub of_json : Settings → Option Data → Line
of_json s None = refused NotJson
of_json s (Some d) = of_object s (as_object d)

-- what JSON the bytes are
unfoldable pub json_of : List ℕ → Option Data
json_of bytes = if is_utf8 bytes then read bytes else None

-- The line without the byte that ends it. The first reason that holds refuses it.
unfoldable pub line_of : Settings → List ℕ → Line
line_of s bytes =
    if nat_lt MOST_LINE_BYTES (length bytes) then refused TooLong
    else (if list_all is_blank bytes then blank else of_json s (json_of bytes))
