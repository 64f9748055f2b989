-- Paths: step by step from a value.
use Rattle.std.specs.Prelude.{List, [], ◌∷◌, slice_get, unwrap_or}
use Rattle.value_meaning.specs.Val.{Val, missing, list, struct, items, pairs}
use Rattle.value_meaning.specs.Pairs.{value_of}
use Rattle.tree_meaning.specs.Tree.{Step, name, at}

-- a name gives the struct's value, an index the list's item counted from 0; MISSING where it is absent or the value is
-- no struct or no list
abbrev pub step_of : Step → Val → Val
step_of (name n) (struct fs) = unwrap_or (value_of n (pairs fs)) missing
step_of (at i) (list vs) = unwrap_or (slice_get (items vs) i) missing
step_of step v = missing

abbrev pub path_of : List Step → Val → Val
path_of [] v = v
path_of (step ∷ steps) v = path_of steps (step_of step v)
