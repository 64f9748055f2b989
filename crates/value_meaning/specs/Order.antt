-- The order of values: by kind, then within the kind.
use Rattle.std.specs.Prelude.{ℕ, List}
use Rattle.std.specs.declared.cmp.Ordering.{Ordering}
use Rattle.std.specs.declared.cmp.Ordering.TheVariants.{Less, Equal, Greater}
use Rattle.std.specs.Ordering.{nat_cmp, int_cmp, bool_cmp, ordering_then as then}
use Rattle.std.specs.Cmp.Lexicographic.{slice_cmp}
use Rattle.value_meaning.specs.Val.{Val, Vals, Fields, missing, null, truth, int, time, text, list, struct, no_vals, val, no_fields, field}

-- the kinds, each below the next; false and true are told apart within theirs
abbrev pub class : Val → ℕ
class missing = 0
class null = 1
class (truth b) = 2
class (int n) = 3
class (time t) = 4
class (text s) = 5
class (list vs) = 6
class (struct fs) = 7

abbrev mutual
  pub val_cmp : Val → Val → Ordering
  val_cmp (truth a) (truth b) = bool_cmp a b
  val_cmp (int a) (int b) = int_cmp a b
  val_cmp (time a) (time b) = int_cmp a b
  val_cmp (text a) (text b) = slice_cmp nat_cmp a b
  val_cmp (list a) (list b) = vals_cmp a b
  val_cmp (struct a) (struct b) = fields_cmp a b
  val_cmp a b = nat_cmp (class a) (class b)

  pub vals_cmp : Vals → Vals → Ordering
  vals_cmp no_vals no_vals = Equal
  vals_cmp no_vals (val w ws) = Less
  vals_cmp (val v vs) no_vals = Greater
  vals_cmp (val v vs) (val w ws) = then (val_cmp v w) (vals_cmp vs ws)

  pub fields_cmp : Fields → Fields → Ordering
  fields_cmp no_fields no_fields = Equal
  fields_cmp no_fields (field m w ws) = Less
  fields_cmp (field n v vs) no_fields = Greater
  fields_cmp (field n v vs) (field m w ws) = then (slice_cmp nat_cmp n m) (then (val_cmp v w) (fields_cmp vs ws))

-- how two pairs of a struct compare: by the name, and at one name by the value
abbrev pub pair_cmp : List ℕ × Val → List ℕ × Val → Ordering
pair_cmp f g = then (slice_cmp nat_cmp f.0 g.0) (val_cmp f.1 g.1)
