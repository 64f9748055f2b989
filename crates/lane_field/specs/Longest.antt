-- A bound on the texts within a value.
use Rattle.std.specs.Prelude.{ℕ, suc, max, length}
use Rattle.value_meaning.specs.Val.{Val, Vals, Fields, missing, null, truth, int, time, text, list, struct, no_vals, val, no_fields, field}

-- a number above the length of each text and name in a value
abbrev mutual
  pub longest : Val → ℕ
  longest missing = 0
  longest null = 0
  longest (truth b) = 0
  longest (int n) = 0
  longest (time t) = 0
  longest (text s) = suc (length s)
  longest (list vs) = vals_longest vs
  longest (struct fs) = fields_longest fs

  pub vals_longest : Vals → ℕ
  vals_longest no_vals = 0
  vals_longest (val v vs) = max (longest v) (vals_longest vs)

  pub fields_longest : Fields → ℕ
  fields_longest no_fields = 0
  fields_longest (field n v fs) = max (suc (length n)) (max (longest v) (fields_longest fs))
