-- The parts of an expression: itself and all that stands in it, at every depth, in the order of the text, an
-- expression before what stands in it. Where a test holds of a part, neither that part nor what stands in it is listed.
use Rattle.std.specs.Prelude.{Bool, false, List, [], ◌∷◌, ◌++◌, if◌then◌else◌}
use Rattle.tree_meaning.specs.Tree.{Ex, Exs, Arms, lit, path, neg, no, bin, is, member, between, matching, choice, cast, call, trunc, extract, shift, agg_of_rows, agg, no_exs, ex, no_arms, arm}

-- the expression and what is listed of what stands in it, or nothing where the test holds
abbrev pub unless : (Ex → Bool) → Ex → List Ex → List Ex
unless t e inner = if t e then [] else e ∷ inner

unfoldable mutual
  -- the parts of what stands in the expression
  pub within : (Ex → Bool) → Ex → List Ex
  within t (lit v) = []
  within t (path r ss) = []
  within t (neg e) = unless t e (within t e)
  within t (no e) = unless t e (within t e)
  within t (bin o a b) = unless t a (within t a) ++ unless t b (within t b)
  within t (is w e) = unless t e (within t e)
  within t (member e es) = unless t e (within t e) ++ exs_within t es
  within t (between e a b) = unless t e (within t e) ++ unless t a (within t a) ++ unless t b (within t b)
  within t (matching h e s) = unless t e (within t e)
  within t (choice r e) = arms_within t r ++ unless t e (within t e)
  within t (cast c e) = unless t e (within t e)
  within t (call f es) = exs_within t es
  within t (trunc p e) = unless t e (within t e)
  within t (extract p e) = unless t e (within t e)
  within t (shift p a e) = unless t a (within t a) ++ unless t e (within t e)
  within t (agg_of_rows n) = []
  within t (agg n e) = unless t e (within t e)

  pub exs_within : (Ex → Bool) → Exs → List Ex
  exs_within t no_exs = []
  exs_within t (ex e es) = unless t e (within t e) ++ exs_within t es

  pub arms_within : (Ex → Bool) → Arms → List Ex
  arms_within t no_arms = []
  arms_within t (arm a b r) = unless t a (within t a) ++ unless t b (within t b) ++ arms_within t r

-- the parts outside those of which the test holds
unfoldable pub parts_outside : (Ex → Bool) → Ex → List Ex
parts_outside t e = unless t e (within t e)

-- all parts
abbrev pub none : Ex → Bool
none e = false

abbrev pub parts : Ex → List Ex
parts = parts_outside none
