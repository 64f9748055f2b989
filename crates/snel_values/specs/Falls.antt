-- Each value within is smaller.
use Rattle.std.specs.Prelude.{◌≤◌, suc, max, List, [], ◌∷◌, map}
use Rattle.std.proofs.Common.{arith}
use denote.Param.Weighed.{most}
use Rattle.value_meaning.specs.Val.{vals, vals_size, fields, fields_size, size}
use Rattle.snel_values.specs.declared.value.Value.{Value}
use Rattle.snel_values.specs.declared.value.Value.TheVariants as of
use Rattle.snel_values.specs.declared.pairs.Pair.{Pair}
use Rattle.snel_values.specs.declared.items.Items.TheDeep.{deep-Value, deep-Pair}
use Rattle.snel_values.specs.View.{view, pair_view}

value_falls : (v : Value) → deep-Value v ≤ suc (size (view v))
value_falls of.Missing = omega arith
value_falls of.Null = omega arith
value_falls (of.Bool b) = omega arith
value_falls (of.Int n) = omega arith
value_falls (of.Time t) = omega arith
value_falls (of.Text s) = omega arith
value_falls (of.List vs) = omega arith
value_falls (of.Struct fs) = omega arith

values_fall : (xs : List Value) → most deep-Value xs ≤ vals_size (vals (map view xs))
values_fall [] = omega arith
values_fall (x ∷ xs) = omega (arith, value_falls x, values_fall xs)

named_fall : (xs : List Pair) → most deep-Pair xs ≤ fields_size (fields (map pair_view xs))
named_fall [] = omega arith
named_fall (x ∷ xs) = omega (arith, value_falls x.value, named_fall xs)

pub items_fall : (xs : List Value) → max (most deep-Value xs) 0 ≤ vals_size (vals (map view xs))
items_fall xs = omega (arith, values_fall xs)

pub pairs_fall : (xs : List Pair) → max (most deep-Pair xs) 0 ≤ fields_size (fields (map pair_view xs))
pairs_fall xs = omega (arith, named_fall xs)
