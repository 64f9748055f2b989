-- The values that are known of parts of expressions, and what an expression is with these in their place.
use Rattle.std.specs.Prelude.{Option}
use Rattle.std.specs.Option.{option_or}
use Rattle.value_meaning.specs.Val.{Val}
use Rattle.tree_meaning.specs.Tree.{Ex, Exs, Arms, lit, path, neg, no, bin, is, member, between, matching, choice, cast, call, trunc, extract, shift, agg_of_rows, agg}
use Rattle.made_meaning.specs.OverGroups.{value_beside, filled, filled_exs, filled_arms}
use Rattle.eval_row.specs.declared.known.KnownParts.{KnownParts}

-- the value of an expression as a key, else as an aggregate
abbrev pub known_in : KnownParts → Ex → Option Val
known_in k e = option_or (value_beside k.keys.now k.key_values.now e) (value_beside k.aggs.now k.agg_values.now e)

-- an expression, a list of them and arms with what is known in place of the outermost parts of which it is
abbrev pub filled_by : KnownParts → Ex → Ex
filled_by k e = filled (known_in k) e

abbrev pub exs_filled_by : KnownParts → Exs → Exs
exs_filled_by k es = filled_exs (known_in k) es

abbrev pub arms_filled_by : KnownParts → Arms → Arms
arms_filled_by k r = filled_arms (known_in k) r

-- the expression with what is known of its operands in their place, whatever is known of itself
abbrev pub filled_within : (Ex → Option Val) → Ex → Ex
filled_within t (lit v) = lit v
filled_within t (path r ss) = path r ss
filled_within t (neg e) = neg (filled t e)
filled_within t (no e) = no (filled t e)
filled_within t (bin o a b) = bin o (filled t a) (filled t b)
filled_within t (is w e) = is w (filled t e)
filled_within t (member e es) = member (filled t e) (filled_exs t es)
filled_within t (between e a b) = between (filled t e) (filled t a) (filled t b)
filled_within t (matching h e s) = matching h (filled t e) s
filled_within t (choice r e) = choice (filled_arms t r) (filled t e)
filled_within t (cast c e) = cast c (filled t e)
filled_within t (call f es) = call f (filled_exs t es)
filled_within t (trunc p e) = trunc p (filled t e)
filled_within t (extract p e) = extract p (filled t e)
filled_within t (shift p a e) = shift p (filled t a) (filled t e)
filled_within t (agg_of_rows n) = agg_of_rows n
filled_within t (agg n e) = agg n e
