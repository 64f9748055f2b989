-- Lines out: each output as one JSON object in compact form (RFC 8259), and a line end.
use Rattle.std.specs.Prelude.{ℕ, Bool, true, false, List, [], ◌∷◌, ◌++◌, codes, flat_map, if◌then◌else◌}
use Rattle.std.specs.Fmt.{signed_decimal}
use Rattle.json.specs.Print.{quoted}
use Rattle.time_meaning.specs.Printed.{time_text}
use Rattle.value_meaning.specs.Val.{Val, Vals, Fields, missing, null, truth, int, time, text, list, struct, no_vals, val, no_fields, field, fields}
use Rattle.answer_meaning.specs.Made.{Output}

-- a comma, where something stands before
abbrev pub comma_if : Bool → List ℕ
comma_if later = if later then 44 ∷ [] else []

-- The text of a value: NULL is `null`, a number its decimal digits, a time its text in quotes. MISSING has none.
abbrev mutual
  pub value_text : Val → List ℕ
  value_text missing = []
  value_text null = codes "null"
  value_text (truth b) = if b then codes "true" else codes "false"
  value_text (int n) = signed_decimal n
  value_text (time t) = 34 ∷ (time_text t ++ 34 ∷ [])
  value_text (text s) = quoted s
  value_text (list vs) = 91 ∷ (items_text false vs ++ 93 ∷ [])
  value_text (struct fs) = 123 ∷ (fields_text false fs ++ 125 ∷ [])

  -- the items of a list, of which some stand before
  pub items_text : Bool → Vals → List ℕ
  items_text later no_vals = []
  items_text later (val v vs) = comma_if later ++ (value_text v ++ items_text true vs)

  -- the pairs of a struct, of which some stand before
  pub fields_text : Bool → Fields → List ℕ
  fields_text later no_fields = []
  fields_text later (field name v fs) = comma_if later ++ (quoted name ++ 58 ∷ (value_text v ++ fields_text true fs))

-- the line of an output
abbrev pub line_text : Output → List ℕ
line_text output = value_text (struct (fields output)) ++ 10 ∷ []

-- the lines of outputs
abbrev pub print : List Output → List ℕ
print outputs = flat_map line_text outputs
