-- The names of outputs.
use Rattle.std.specs.Prelude.{ℕ, List, [], ◌∷◌, ◌++◌, map, Option, None, Some, unwrap_or, codes}
use Rattle.std.specs.Fmt.{decimal}
use Rattle.std.specs.List.{enumerate_from}
use Rattle.tree_meaning.specs.Tree.{Step, name, at, Ex, path, Outs, star, named}

-- the last name of a path that doesn't end in an index
abbrev pub last_name : List Step → Option (List ℕ)
last_name [] = None
last_name (name n ∷ []) = Some n
last_name (at i ∷ []) = None
last_name (s ∷ t ∷ ss) = last_name (t ∷ ss)

abbrev pub path_name : Ex → Option (List ℕ)
path_name (path r ss) = last_name ss
path_name e = None

-- `_` and the output's number
abbrev pub numbered_name : ℕ → List ℕ
numbered_name k = codes "_" ++ decimal k

-- the name of output k: the one that it was given, else that of its path, else by its number
abbrev pub output_name : ℕ → Ex × Option (List ℕ) → List ℕ
output_name k o = unwrap_or o.1 (unwrap_or (path_name o.0) (numbered_name k))

-- the outputs, each with its name if it was given one; `*` has none
abbrev pub items_of : Outs → List (Ex × Option (List ℕ))
items_of star = []
items_of (named items) = items

-- the names, in the order of the outputs
unfoldable pub names : Outs → List (List ℕ)
names outs = map (λ o. output_name o.0 o.1) (enumerate_from 1 (items_of outs))
