-- The texts of single steps of a path.
use Rattle.std.proofs.Common.{◌≡◌, ℕ, List, [], ◌∷◌, ◌++◌, refl, ap, append-nil}
use Rattle.std.specs.Prelude.{codes, decimal}
use Rattle.tree_meaning.specs.Tree.{name, at}
use Rattle.print_meaning.specs.Pieces.{in_quotes, spelling}
use Rattle.print_meaning.specs.Texts.{steps_text}

pub name_text : (n : List ℕ) → steps_text (name n ∷ []) ≡ codes "." ++ in_quotes 34 n
unfolding steps_text spelling
name_text n = ap (λ (z : List ℕ). 46 ∷ z) (append-nil (in_quotes 34 n))

pub at_text : (i : ℕ) → steps_text (at i ∷ []) ≡ codes "[" ++ (decimal i ++ codes "]")
unfolding steps_text spelling
at_text i = refl
