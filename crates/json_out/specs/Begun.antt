-- Lines that are made pair by pair.
use Rattle.std.specs.Prelude.{ℕ, Bool, false, List, [], ◌∷◌, ◌++◌, length, nat_lt}
use Rattle.value_meaning.specs.Val.{Val, missing, fields}
use Rattle.answer_meaning.specs.Made.{Output}
use Rattle.answer_meaning.specs.Lines.{comma_if, value_text, fields_text}
use Rattle.json.specs.Print.{quoted}

-- a line so far: the brace and the pairs, without what ends it
abbrev pub begun : Output → List ℕ
begun output = 123 ∷ fields_text false (fields output)

-- some pair stands behind the brace
abbrev pub has_pairs : List ℕ → Bool
has_pairs line = nat_lt 1 (length line)

-- what a pair adds: a comma where a pair stands before, the name, a colon and the value
abbrev pub pair_text : List ℕ → List ℕ → List ℕ → List ℕ
pair_text line name value = comma_if (has_pairs line) ++ (quoted name ++ 58 ∷ value)

-- the pair that a value gives, and none where it is MISSING
abbrev pub pair_if_any : List ℕ → Val → Output
pair_if_any name missing = []
pair_if_any name v = (name, v) ∷ []

-- what that pair adds
abbrev pub pair_text_if_any : List ℕ → List ℕ → Val → List ℕ
pair_text_if_any line name missing = []
pair_text_if_any line name v = pair_text line name (value_text v)
