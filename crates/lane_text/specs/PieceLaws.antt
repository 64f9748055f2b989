-- The law of the pieces.
use Rattle.std.specs.Prelude.{◌≡◌, ℕ, List}
use Rattle.eval_meaning.specs.Matching.{likes}
use Rattle.lane_text.specs.Pieces.{pieces, anchored}

-- a pattern matches where its pieces, each at the first place that it can take, do
abbrev pub GreedyIsExact : Type 0
GreedyIsExact = (pattern text : List ℕ) → likes pattern text ≡ anchored (pieces pattern) text
