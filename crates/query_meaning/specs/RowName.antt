-- The row's name, which a path that goes on with a name may begin with and loses.
use Rattle.std.specs.Prelude.{ℕ, List, [], ◌∷◌, map, unwrap_or, if◌then◌else◌}
use Rattle.std.specs.Option.{option_map}
use Rattle.std.specs.Str.{bytes_eq}
use Rattle.tree_meaning.specs.Tree.{Step, name, at, Ex, Exs, Arms, lit, path, neg, no, bin, is, member, between, matching, choice, cast, call, trunc, extract, shift, agg_of_rows, agg, no_exs, ex, no_arms, arm, Outs, star, named, Query}

-- the second name after FROM, or the first where it stands alone
abbrev pub row_name : Query → List ℕ
row_name q = unwrap_or q.alias q.source

-- the path without the row's name
unfoldable pub short_path : List ℕ → List Step → List Step
short_path row [] = []
short_path row (at i ∷ ss) = at i ∷ ss
short_path row (name n ∷ []) = name n ∷ []
short_path row (name n ∷ at i ∷ ss) = name n ∷ at i ∷ ss
short_path row (name n ∷ name k ∷ ss) = if bytes_eq n row then name k ∷ ss else name n ∷ name k ∷ ss

abbrev mutual
  pub short : List ℕ → Ex → Ex
  short row (lit v) = lit v
  short row (path r ss) = path r (short_path row ss)
  short row (neg e) = neg (short row e)
  short row (no e) = no (short row e)
  short row (bin o a b) = bin o (short row a) (short row b)
  short row (is w e) = is w (short row e)
  short row (member e es) = member (short row e) (short_exs row es)
  short row (between e a b) = between (short row e) (short row a) (short row b)
  short row (matching h e p) = matching h (short row e) p
  short row (choice r e) = choice (short_arms row r) (short row e)
  short row (cast c e) = cast c (short row e)
  short row (call f es) = call f (short_exs row es)
  short row (trunc p e) = trunc p (short row e)
  short row (extract p e) = extract p (short row e)
  short row (shift p a e) = shift p (short row a) (short row e)
  short row (agg_of_rows n) = agg_of_rows n
  short row (agg n e) = agg n (short row e)

  pub short_exs : List ℕ → Exs → Exs
  short_exs row no_exs = no_exs
  short_exs row (ex e es) = ex (short row e) (short_exs row es)

  pub short_arms : List ℕ → Arms → Arms
  short_arms row no_arms = no_arms
  short_arms row (arm a b r) = arm (short row a) (short row b) (short_arms row r)

abbrev pub short_outs : List ℕ → Outs → Outs
short_outs row star = star
short_outs row (named items) = named (map (λ i. (short row i.0, i.1)) items)

-- the query whose paths have lost this name
abbrev pub without_row : List ℕ → Query → Query
without_row row q =
    record {
      outs = short_outs row q.outs;
      source = q.source;
      alias = q.alias;
      filter = option_map (short row) q.filter;
      keys = map (short row) q.keys;
      having = option_map (short row) q.having;
      order = map (λ k. (short row k.0, k.1)) q.order;
      take = q.take;
      skip = q.skip;
    }
