-- The expressions that stand directly in an expression, in the order of the text.
use Rattle.std.specs.Prelude.{List, [], ◌∷◌, ◌++◌}
use Rattle.tree_meaning.specs.Tree.{Ex, Arms, lit, path, neg, no, bin, is, member, between, matching, choice, cast, call, trunc, extract, shift, agg_of_rows, agg, no_arms, arm, items}

abbrev pub arm_operands : Arms → List Ex
arm_operands no_arms = []
arm_operands (arm a b r) = a ∷ b ∷ arm_operands r

abbrev pub operands : Ex → List Ex
operands (lit v) = []
operands (path r ss) = []
operands (neg e) = e ∷ []
operands (no e) = e ∷ []
operands (bin o a b) = a ∷ b ∷ []
operands (is w e) = e ∷ []
operands (member e es) = e ∷ items es
operands (between e a b) = e ∷ a ∷ b ∷ []
operands (matching h e s) = e ∷ []
operands (choice r e) = arm_operands r ++ e ∷ []
operands (cast c e) = e ∷ []
operands (call f es) = items es
operands (trunc p e) = e ∷ []
operands (extract p e) = e ∷ []
operands (shift p a e) = a ∷ e ∷ []
operands (agg_of_rows n) = []
operands (agg n e) = e ∷ []
