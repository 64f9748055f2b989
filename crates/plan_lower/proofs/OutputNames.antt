-- The names of outputs, and how many they are.
use Rattle.std.proofs.Common.{◌≡◌, ℕ, List, [], map, length, Option, ap, ◌∙◌}
use Rattle.std.proofs.lemmas.List.{length-map}
use Rattle.std.proofs.lemmas.List.FromFn.{length-enumerate_from}
use Rattle.std.specs.List.{enumerate_from}
use Rattle.tree_meaning.specs.Tree.{Ex, Outs, star, named}
use Rattle.check_meaning.specs.Names.{items_of, names, output_name}

pub names_of_star : (outs : Outs) → outs ≡ star → names outs ≡ []
unfolding names
names_of_star outs h = ap (λ o. map (λ (n : ℕ × (Ex × Option (List ℕ))). output_name n.0 n.1) (enumerate_from 1 (items_of o))) h

pub length_of_names : (outs : Outs) (items : List (Ex × Option (List ℕ))) → outs ≡ named items → length (names outs) ≡ length items
unfolding names
length_of_names outs items h =
    ap (λ o. length (names o)) h
    ∙ length-map (enumerate_from 1 items) (λ (n : ℕ × (Ex × Option (List ℕ))). output_name n.0 n.1)
    ∙ length-enumerate_from 1 items
