-- Rows that are light enough for a test's block.
use Rattle.std.specs.Prelude.{◌≤◌, List, [], ◌∷◌}
use Rattle.value_meaning.specs.Val.{Val}
use Rattle.write_meaning.specs.Weights.{weight}
use Rattle.write_meaning.specs.Standing.{IsWritableRow}

-- each row may be written and weighs at most 10,000
abbrev pub AreLight : List Val → Type 0
AreLight [] = Unit {0}
AreLight (v ∷ vs) = (IsWritableRow v × (weight v ≤ 10_000)) × AreLight vs
