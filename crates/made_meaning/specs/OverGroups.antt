-- The groups of a query's pairs, and the value of an expression over one: its parts that are keys or aggregates have the
-- group's values, the outermost first, and what is left is evaluated in no row.
use Rattle.std.specs.Prelude.{List, [], ◌∷◌, map, filter, Option, None, Some, if◌then◌else◌}
use Rattle.std.specs.Option.{option_or}
use Rattle.value_meaning.specs.Val.{Val, missing}
use Rattle.tree_meaning.specs.Tree.{Ex, Exs, Arms, lit, path, neg, no, bin, is, member, between, matching, choice, cast, call, trunc, extract, shift, agg_of_rows, agg, no_exs, ex, no_arms, arm, Query}
use Rattle.check_meaning.specs.Same.{same_ex}
use Rattle.agg_meaning.specs.Keys.{same_keys, distinct_keys}
use Rattle.agg_meaning.specs.Aggregates.{aggregate}
use Rattle.eval_meaning.specs.Pair.{Pair, alone}
use Rattle.eval_meaning.specs.Evaluation.{eval}

-- the values of expressions on a pair
abbrev pub values_on : List Ex → Pair → List Val
values_on es p = map (λ e. eval e p) es

-- the values of the keys, and the pairs that have them
pub record Group : Type 0 where
  pub keys : List Val
  pub members : List Pair

abbrev pub group_of : List Ex → List Pair → List Val → Group
group_of es all keys = record { keys = keys; members = filter (λ p. same_keys keys (values_on es p)) all }

-- without GROUP BY one group of all pairs, also of none; else one for each distinct list of the keys' values
abbrev pub groups : List Ex → List Pair → List Group
groups [] all = record { keys = []; members = all } ∷ []
groups (e ∷ es) all = map (group_of (e ∷ es) all) (distinct_keys (map (values_on (e ∷ es)) all))

-- the value beside the first expression that is this one
abbrev pub value_beside : List Ex → List Val → Ex → Option Val
value_beside (k ∷ ks) (v ∷ vs) e = if same_ex k e then Some v else value_beside ks vs e
value_beside ks vs e = None

-- the value of an aggregate over the group's members; COUNT(*) counts them, and looks at no value
abbrev pub aggregate_value : List Pair → Ex → Option Val
aggregate_value all (agg_of_rows n) = Some (aggregate n (map (λ p. p.row) all))
aggregate_value all (agg n e) = Some (aggregate n (map (eval e) all))
aggregate_value all e = None

-- the value that an expression has as a key or as an aggregate
abbrev pub known : List Ex → Group → Ex → Option Val
known es g e = option_or (value_beside es g.keys e) (aggregate_value g.members e)

-- the value, where there is one, in place of the expression
abbrev pub lit_or : Option Val → Ex → Ex
lit_or None e = e
lit_or (Some v) e = lit v

-- the expression with the values that are known in place of its outermost parts that have one
unfoldable mutual
  pub filled : (Ex → Option Val) → Ex → Ex
  filled t (lit v) = lit_or (t (lit v)) (lit v)
  filled t (path r ss) = lit_or (t (path r ss)) (path r ss)
  filled t (neg e) = lit_or (t (neg e)) (neg (filled t e))
  filled t (no e) = lit_or (t (no e)) (no (filled t e))
  filled t (bin o a b) = lit_or (t (bin o a b)) (bin o (filled t a) (filled t b))
  filled t (is w e) = lit_or (t (is w e)) (is w (filled t e))
  filled t (member e es) = lit_or (t (member e es)) (member (filled t e) (filled_exs t es))
  filled t (between e a b) = lit_or (t (between e a b)) (between (filled t e) (filled t a) (filled t b))
  filled t (matching h e s) = lit_or (t (matching h e s)) (matching h (filled t e) s)
  filled t (choice r e) = lit_or (t (choice r e)) (choice (filled_arms t r) (filled t e))
  filled t (cast c e) = lit_or (t (cast c e)) (cast c (filled t e))
  filled t (call f es) = lit_or (t (call f es)) (call f (filled_exs t es))
  filled t (trunc p e) = lit_or (t (trunc p e)) (trunc p (filled t e))
  filled t (extract p e) = lit_or (t (extract p e)) (extract p (filled t e))
  filled t (shift p a e) = lit_or (t (shift p a e)) (shift p (filled t a) (filled t e))
  filled t (agg_of_rows n) = lit_or (t (agg_of_rows n)) (agg_of_rows n)
  filled t (agg n e) = lit_or (t (agg n e)) (agg n e)

  pub filled_exs : (Ex → Option Val) → Exs → Exs
  filled_exs t no_exs = no_exs
  filled_exs t (ex e es) = ex (filled t e) (filled_exs t es)

  pub filled_arms : (Ex → Option Val) → Arms → Arms
  filled_arms t no_arms = no_arms
  filled_arms t (arm a b r) = arm (filled t a) (filled t b) (filled_arms t r)

-- the value of an expression of which the values of some parts are known
abbrev pub value_by : (Ex → Option Val) → Ex → Val
value_by t e = eval (filled t e) (alone missing)

-- the value of an expression over a group
unfoldable pub over : Query → Group → Ex → Val
over q g e = value_by (known q.keys g) e
