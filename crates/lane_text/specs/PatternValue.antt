-- What a compiled pattern stands for.
use Rattle.std.specs.Prelude.{ℕ, List, [], ◌∷◌, true}
use Rattle.tree_meaning.specs.declared.How.{How}
use Rattle.tree_meaning.specs.declared.How.TheVariants as how
use Rattle.lane_text.specs.Bytewise.{folded}
use Rattle.lane_text.specs.Pieces.{pieces}

-- how texts are matched, and by which text
pub record PatternValue : Type 0 where
  pub how : How
  pub text : List ℕ

-- the pieces that are searched for
abbrev pub pieces_for : How → List ℕ → List (List ℕ)
pieces_for how.Like text = pieces text
pieces_for how.ILike text = pieces (folded true text)
pieces_for how.Starts text = []
pieces_for how.Ends text = []
pieces_for how.Contains text = text ∷ []
