-- Sixteen rows of a block at most, lane by lane.
use Rattle.std.specs.Prelude.{ℕ, List, [], ◌∷◌}
use Rattle.value_meaning.specs.Val.{Val}
use Rattle.block_meaning.specs.Tables.{Table}
use Rattle.block_meaning.specs.Cells.{IsCell}

-- each bytes are a cell of the value at their place, with nothing around it
abbrev pub AreCellsOf : Table → List Val → List (List ℕ) → Type 0
AreCellsOf table [] [] = Unit {0}
AreCellsOf table [] (b ∷ bs) = ⊥
AreCellsOf table (v ∷ vs) [] = ⊥
AreCellsOf table (v ∷ vs) (b ∷ bs) = IsCell table 0 v b × AreCellsOf table vs bs
