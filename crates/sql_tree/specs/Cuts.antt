-- The token at the front of bytes.
use Rattle.std.specs.Prelude.{◌≡◌, ℕ, List, [], ◌∷◌, Result}
use Rattle.query_meaning.specs.Lexing.{Cut, cut_at}

abbrev pub IsCutOf : List ℕ → Result Cut ℕ → Type 0
IsCutOf [] r = Unit {0}
IsCutOf (b ∷ bs) r = r ≡ cut_at b bs
