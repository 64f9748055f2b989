-- What the code's values stand for.
use Rattle.std.specs.Prelude.{ℕ, List, map}
use Rattle.snel_values.specs.declared.value.Value.{Value}
use Rattle.snel_values.specs.declared.value.Value.TheVariants as of
use Rattle.snel_values.specs.declared.pairs.Pair.{Pair}
use Rattle.value_meaning.specs.Val.{Val, missing, null, truth, int, time, text, list, struct, vals, fields}

abbrev pub view : Value → Val
view of.Missing = missing
view of.Null = null
view (of.Bool b) = truth b
view (of.Int n) = int n
view (of.Time t) = time t
view (of.Text s) = text s
view (of.List vs) = list (vals vs)
view (of.Struct fs) = struct (fields fs)

abbrev pub views : List Value → List Val
views = map view

abbrev pub pair_view : Pair → List ℕ × Val
pair_view p = (p.name, view p.value)
