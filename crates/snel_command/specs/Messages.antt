-- Why the text of a query isn't answered, and why a line isn't packed, in words.
use Rattle.std.specs.Prelude.{ℕ, List, [], ◌++◌, codes}
use Rattle.std.specs.Fmt.{decimal}
use Rattle.query_meaning.specs.Faults as text
use Rattle.check_meaning.specs.Limit as limit
use Rattle.check_meaning.specs.Limit.{Limit}
use Rattle.check_meaning.specs.Place as place
use Rattle.check_meaning.specs.Place.{Place}
use Rattle.check_meaning.specs.Fault as fault
use Rattle.check_meaning.specs.Fault.{Fault}
use Rattle.pack_meaning.specs.declared.LineWhy.{LineWhy}
use Rattle.pack_meaning.specs.declared.LineWhy.TheVariants as why
use Rattle.query_run.specs.Queries.{Refused, unread, unchecked}

-- words about a file
abbrev pub about : List ℕ → List ℕ → List ℕ
about name what = codes "snel: " ++ name ++ what

-- words and a number
abbrev pub numbered : List ℕ → ℕ → List ℕ
numbered words n = words ++ decimal n

-- why a text is no text of a query
abbrev pub reading_words : text.Verdict → List ℕ
reading_words text.too_long = codes "too long"
reading_words (text.bad_token n) = numbered (codes "bad token at byte ") n
reading_words text.too_many = codes "too many tokens"
reading_words (text.refused n) = numbered (codes "refused word at byte ") n
reading_words (text.too_deep n) = numbered (codes "nested too deep at byte ") n
reading_words text.not_a_query = codes "not a query"
reading_words (text.is_query q) = []

abbrev pub limit_words : Limit → List ℕ
limit_words limit.outputs = codes "outputs"
limit_words limit.group_keys = codes "group keys"
limit_words limit.order_keys = codes "order keys"
limit_words limit.steps = codes "steps"
limit_words limit.aggregates = codes "aggregates"

abbrev pub place_words : Place → List ℕ
place_words (place.output n) = numbered (codes "output ") n
place_words place.where_test = codes "WHERE"
place_words (place.group_key n) = numbered (codes "group key ") n
place_words place.having = codes "HAVING"
place_words (place.order_key n) = numbered (codes "order key ") n

-- why a query isn't accepted
abbrev pub check_words : Fault → List ℕ
check_words (fault.too_many l) = codes "too many " ++ limit_words l
check_words (fault.nested p) = place_words p ++ codes " has a misplaced aggregate"
check_words (fault.not_grouped p) = place_words p ++ codes " is not grouped"
check_words (fault.over_groups p) = place_words p ++ codes " is not allowed over groups"
check_words (fault.same_name n) = numbered (codes "output ") n ++ codes " has an earlier name"
check_words (fault.no_such_order n) = numbered (codes "order key ") n ++ codes " has no output"

abbrev pub refused_words : Refused → List ℕ
refused_words (unread v) = reading_words v
refused_words (unchecked f) = check_words f

-- the line of status 3
abbrev pub query_line : Refused → List ℕ
query_line f = codes "snel: query: " ++ (refused_words f ++ codes "\n")

-- why a line isn't packed
abbrev pub why_words : LineWhy → List ℕ
why_words why.TooMuch = codes "too much input"
why_words why.TooLong = codes "too long"
why_words why.NotJson = codes "not json"
why_words why.NotObject = codes "not an object"
why_words why.Number = codes "number"
why_words why.TooLarge = codes "too large"
why_words why.Full = codes "file full"
