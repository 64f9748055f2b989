-- Rows that are light enough make a light block.
use Rattle.std.proofs.Common.{ℕ, ◌+◌, ◌*◌, ◌≤◌, List, [], ◌∷◌, length, sum_by, arith}
use Rattle.std.proofs.lemmas.List.{length-map}
use Rattle.std.proofs.lemmas.List.Sums.{sum_by-cons}
use Rattle.value_meaning.specs.Val.{Val}
use Rattle.snel_values.specs.declared.value.Value.{Value}
use Rattle.snel_values.specs.View.{view, views}
use Rattle.write_meaning.specs.Weights.{weight}
use Rattle.write_meaning.specs.Standing.{AreWritableRows}
use Rattle.value_tests.specs.Light.{AreLight}

pub light_writable : (rows : List Val) → AreLight rows → AreWritableRows rows
light_writable [] h = tt
light_writable (v ∷ vs) h = (h.0.0, light_writable vs h.1)

each_light : (rows : List Val) → AreLight rows → sum_by weight rows ≤ 10_000 * length rows
each_light [] h = omega arith
each_light (v ∷ vs) h = omega (arith, sum_by-cons weight v vs, h.0.1, each_light vs h.1)

pub light_sum : (rows : List Value) → AreLight (views rows) → length rows ≤ 100 → sum_by weight (views rows) ≤ 1_000_000
light_sum rows h few = omega (arith, each_light (views rows) h, length-map rows view, few)
