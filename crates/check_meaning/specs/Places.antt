-- What an order key stands for, and where each expression of a query stands.
use Rattle.std.specs.Prelude.{ℕ, zero, suc, ℤ, pos, negsuc, List, [], ◌∷◌, ◌++◌, map, Option, None, Some, unwrap_or, slice_get}
use Rattle.std.specs.Option.{option_and_then, option_or}
use Rattle.std.specs.Str.{bytes_eq}
use Rattle.std.specs.List.{position_from, enumerate_from}
use Rattle.value_meaning.specs.Val.{int}
use Rattle.tree_meaning.specs.Tree.{name, Ex, lit, path, Outs, Query}
use Rattle.check_meaning.specs.Names.{names, items_of}
use Rattle.check_meaning.specs.Place.{Place, output, where_test, group_key, having, order_key}

abbrev pub output_exs : Outs → List Ex
output_exs outs = map (λ o. o.0) (items_of outs)

-- output k, counted from 1
unfoldable pub output_at : Outs → ℤ → Option Ex
output_at outs (pos zero) = None
output_at outs (pos (suc k)) = slice_get (output_exs outs) k
output_at outs (negsuc k) = None

-- the first output of that name
unfoldable pub output_named : Outs → List ℕ → Option Ex
output_named outs n = option_and_then (slice_get (output_exs outs)) (position_from (bytes_eq n) 0 (names outs))

-- the number that a literal is
abbrev pub as_number : Ex → Option ℤ
as_number (lit (int k)) = Some k
as_number e = None

-- the name that is all of a path from the row
abbrev pub as_name : Ex → Option (List ℕ)
as_name (path zero (name n ∷ [])) = Some n
as_name e = None

-- An order key that is a number k stands for output k. One that is a path of one name stands for the output of that
-- name, also where that output is another expression. Every other key, and a key that finds no output, is an expression
-- of its own.
unfoldable pub order_ex : Outs → Ex → Ex
order_ex outs e = unwrap_or (option_or by_number by_name) e
  where
    by_number : Option Ex
    by_number = option_and_then (output_at outs) (as_number e)

    by_name : Option Ex
    by_name = option_and_then (output_named outs) (as_name e)

-- the expressions at places that are counted from 1
abbrev pub counted : (ℕ → Place) → List Ex → List (Place × Ex)
counted at es = map (λ n. (at n.0, n.1)) (enumerate_from 1 es)

abbrev pub alone : Place → Option Ex → List (Place × Ex)
alone at None = []
alone at (Some e) = (at, e) ∷ []

-- All expressions of a query in the order of its text, each with its place. An order key stands in the list as what it
-- stands for: so one that stands for an output has the faults of that output, which has the earlier place. It takes away
-- no path and no aggregate, since such a key is a number or a path of one step.
unfoldable pub places : Query → List (Place × Ex)
places q =
    counted output (output_exs q.outs)
    ++ (alone where_test q.filter
    ++ (counted group_key q.keys
    ++ (alone having q.having
    ++ counted order_key (map (λ k. order_ex q.outs k.0) q.order))))
