-- The words that the language knows, in any case, and the texts of the signs.
use Rattle.std.specs.Prelude.{ℕ, Bool, List, [], ◌∷◌, Option, find, codes}
use Rattle.std.specs.Str.{str_eq_ignore_ascii_case}
use Rattle.std.specs.List.{list_any}
use Rattle.query_meaning.specs.declared.Mark.{Mark}
use Rattle.query_meaning.specs.declared.Mark.TheVariants as m
use Rattle.query_meaning.specs.declared.FunctionWord.{FunctionWord}
use Rattle.query_meaning.specs.declared.FunctionWord.TheVariants as f
use Rattle.tree_meaning.specs.declared.CastTo.{CastTo}
use Rattle.tree_meaning.specs.declared.CastTo.TheVariants as to
use Rattle.tree_meaning.specs.declared.Part.{Part}
use Rattle.tree_meaning.specs.declared.Part.TheVariants as part

-- as it is printed
abbrev pub mark_text : Mark → List ℕ
mark_text m.Select = codes "SELECT"
mark_text m.From = codes "FROM"
mark_text m.Where = codes "WHERE"
mark_text m.Group = codes "GROUP"
mark_text m.By = codes "BY"
mark_text m.Having = codes "HAVING"
mark_text m.Order = codes "ORDER"
mark_text m.Limit = codes "LIMIT"
mark_text m.Offset = codes "OFFSET"
mark_text m.As = codes "AS"
mark_text m.And = codes "AND"
mark_text m.Or = codes "OR"
mark_text m.Not = codes "NOT"
mark_text m.Is = codes "IS"
mark_text m.Null = codes "NULL"
mark_text m.Missing = codes "MISSING"
mark_text m.True = codes "TRUE"
mark_text m.False = codes "FALSE"
mark_text m.In = codes "IN"
mark_text m.Between = codes "BETWEEN"
mark_text m.Like = codes "LIKE"
mark_text m.ILike = codes "ILIKE"
mark_text m.Case = codes "CASE"
mark_text m.When = codes "WHEN"
mark_text m.Then = codes "THEN"
mark_text m.Else = codes "ELSE"
mark_text m.End = codes "END"
mark_text m.Cast = codes "CAST"
mark_text m.Asc = codes "ASC"
mark_text m.Desc = codes "DESC"
mark_text m.Open = codes "("
mark_text m.Close = codes ")"
mark_text m.OpenIndex = codes "["
mark_text m.CloseIndex = codes "]"
mark_text m.Comma = codes ","
mark_text m.Dot = codes "."
mark_text m.Star = codes "*"
mark_text m.Plus = codes "+"
mark_text m.Minus = codes "-"
mark_text m.Slash = codes "/"
mark_text m.Percent = codes "%"
mark_text m.Equal = codes "="
mark_text m.Unequal = codes "<>"
mark_text m.Less = codes "<"
mark_text m.AtMost = codes "<="
mark_text m.Greater = codes ">"
mark_text m.AtLeast = codes ">="

-- the reserved words
abbrev pub reserved : List Mark
reserved =
    m.Select ∷ m.From ∷ m.Where ∷ m.Group ∷ m.By ∷ m.Having ∷ m.Order ∷ m.Limit ∷ m.Offset ∷ m.As ∷
    m.And ∷ m.Or ∷ m.Not ∷ m.Is ∷ m.Null ∷ m.Missing ∷ m.True ∷ m.False ∷ m.In ∷ m.Between ∷
    m.Like ∷ m.ILike ∷ m.Case ∷ m.When ∷ m.Then ∷ m.Else ∷ m.End ∷ m.Cast ∷ m.Asc ∷ m.Desc ∷ []

-- the reserved word that this is
unfoldable pub reserved_word : List ℕ → Option Mark
reserved_word w = find (λ k. str_eq_ignore_ascii_case (mark_text k) w) reserved

-- words that no query has, unless they are quoted
abbrev pub refused : List (List ℕ)
refused =
    codes "JOIN" ∷ codes "INNER" ∷ codes "LEFT" ∷ codes "RIGHT" ∷ codes "FULL" ∷ codes "OUTER" ∷
    codes "CROSS" ∷ codes "ON" ∷ codes "UNION" ∷ codes "INTERSECT" ∷ codes "EXCEPT" ∷ codes "WITH" ∷
    codes "OVER" ∷ codes "PARTITION" ∷ codes "DISTINCT" ∷ codes "PIVOT" ∷ codes "UNPIVOT" ∷ codes "ESCAPE" ∷
    codes "EXISTS" ∷ codes "LATERAL" ∷ codes "FILTER" ∷ codes "NULLS" ∷ codes "INTERVAL" ∷ []

unfoldable pub is_refused : List ℕ → Bool
is_refused w = list_any (λ r. str_eq_ignore_ascii_case r w) refused

abbrev pub function_text : FunctionWord → List ℕ
function_text f.Coalesce = codes "COALESCE"
function_text f.NullIf = codes "NULLIF"
function_text f.CharLength = codes "CHAR_LENGTH"
function_text f.ToUnixEpoch = codes "TO_UNIX_EPOCH"
function_text f.ToUnixMicro = codes "TO_UNIX_MICRO"
function_text f.StartsWith = codes "STARTS_WITH"
function_text f.EndsWith = codes "ENDS_WITH"
function_text f.Contains = codes "CONTAINS"
function_text f.DateTrunc = codes "DATE_TRUNC"
function_text f.Extract = codes "EXTRACT"
function_text f.DateAdd = codes "DATE_ADD"
function_text f.Count = codes "COUNT"
function_text f.Sum = codes "SUM"
function_text f.Min = codes "MIN"
function_text f.Max = codes "MAX"
function_text f.Avg = codes "AVG"
function_text f.Earliest = codes "EARLIEST"
function_text f.Latest = codes "LATEST"
function_text f.BoolAnd = codes "BOOL_AND"
function_text f.BoolOr = codes "BOOL_OR"

abbrev pub functions : List FunctionWord
functions =
    f.Coalesce ∷ f.NullIf ∷ f.CharLength ∷ f.ToUnixEpoch ∷ f.ToUnixMicro ∷ f.StartsWith ∷ f.EndsWith ∷ f.Contains ∷ f.DateTrunc ∷ f.Extract ∷
    f.DateAdd ∷ f.Count ∷ f.Sum ∷ f.Min ∷ f.Max ∷ f.Avg ∷ f.Earliest ∷ f.Latest ∷ f.BoolAnd ∷ f.BoolOr ∷ []

-- the function that the word names
unfoldable pub function_word : List ℕ → Option FunctionWord
function_word w = find (λ k. str_eq_ignore_ascii_case (function_text k) w) functions

abbrev pub part_text : Part → List ℕ
part_text part.Microsecond = codes "MICROSECOND"
part_text part.Second = codes "SECOND"
part_text part.Minute = codes "MINUTE"
part_text part.Hour = codes "HOUR"
part_text part.Day = codes "DAY"
part_text part.Week = codes "WEEK"
part_text part.Month = codes "MONTH"
part_text part.Quarter = codes "QUARTER"
part_text part.Year = codes "YEAR"

abbrev pub parts : List Part
parts = part.Microsecond ∷ part.Second ∷ part.Minute ∷ part.Hour ∷ part.Day ∷ part.Week ∷ part.Month ∷ part.Quarter ∷ part.Year ∷ []

-- the part of a time that the word names
unfoldable pub part_word : List ℕ → Option Part
part_word w = find (λ k. str_eq_ignore_ascii_case (part_text k) w) parts

abbrev pub cast_text : CastTo → List ℕ
cast_text to.Integer = codes "INTEGER"
cast_text to.Boolean = codes "BOOLEAN"

abbrev pub casts : List CastTo
casts = to.Integer ∷ to.Boolean ∷ []

-- what the word behind AS in a CAST names
unfoldable pub cast_word : List ℕ → Option CastTo
cast_word w = find (λ k. str_eq_ignore_ascii_case (cast_text k) w) casts
