-- An expression with the values that are known of its parts.
use Rattle.std.proofs.Common.{◌≡◌, List, ◌∷◌, Option, Some, None, refl, ap, ◌∙◌}
use Rattle.value_meaning.specs.Val.{Val}
use Rattle.tree_meaning.specs.Tree.{Ex, Exs, Arms, lit, path, neg, no, bin, is, member, between, matching, choice, cast, call, trunc, extract, shift, agg_of_rows, agg, no_exs, ex, no_arms, arm, exs, arms}
use Rattle.made_meaning.specs.OverGroups.{lit_or, filled, filled_exs, filled_arms}
use Rattle.eval_row.specs.Known.{filled_within}

-- a value that is known stands in place of the expression, and one that isn't leaves it to its operands
filled_is : (t : Ex → Option Val) (e : Ex) → filled t e ≡ lit_or (t e) (filled_within t e)
unfolding filled
filled_is t (lit v) = refl
filled_is t (path r ss) = refl
filled_is t (neg e) = refl
filled_is t (no e) = refl
filled_is t (bin o a b) = refl
filled_is t (is w e) = refl
filled_is t (member e es) = refl
filled_is t (between e a b) = refl
filled_is t (matching h e s) = refl
filled_is t (choice r e) = refl
filled_is t (cast c e) = refl
filled_is t (call f es) = refl
filled_is t (trunc p e) = refl
filled_is t (extract p e) = refl
filled_is t (shift p a e) = refl
filled_is t (agg_of_rows n) = refl
filled_is t (agg n e) = refl

pub filled_known : (t : Ex → Option Val) (e : Ex) (v : Val) → t e ≡ Some v → filled t e ≡ lit v
filled_known t e v h = filled_is t e ∙ ap (λ o. lit_or o (filled_within t e)) h

pub filled_unknown : (t : Ex → Option Val) (e : Ex) → t e ≡ None → filled t e ≡ filled_within t e
filled_unknown t e h = filled_is t e ∙ ap (λ o. lit_or o (filled_within t e)) h

pub exs_filled : (t : Ex → Option Val) (e : Ex) (es : List Ex) → filled_exs t (exs (e ∷ es)) ≡ ex (filled t e) (filled_exs t (exs es))
unfolding filled_exs
exs_filled t e es = refl

pub no_exs_filled : (t : Ex → Option Val) → filled_exs t no_exs ≡ no_exs
unfolding filled_exs
no_exs_filled t = refl

pub arms_filled : (t : Ex → Option Val) (x : Ex × Ex) (xs : List (Ex × Ex)) → filled_arms t (arms (x ∷ xs)) ≡ arm (filled t x.0) (filled t x.1) (filled_arms t (arms xs))
unfolding filled_arms
arms_filled t x xs = refl

pub no_arms_filled : (t : Ex → Option Val) → filled_arms t no_arms ≡ no_arms
unfolding filled_arms
no_arms_filled t = refl

-- where nothing is known nothing changes
module _ (t : Ex → Option Val) (unknown : (e : Ex) → t e ≡ None) where
  as_within : (e : Ex) → filled_within t e ≡ e → filled t e ≡ e
  as_within e h = filled_unknown t e (unknown e) ∙ h

  mutual
    unfolding filled_exs filled_arms

    pub unfilled : (e : Ex) → filled t e ≡ e
    unfilled (lit v) = as_within (lit v) refl
    unfilled (path r ss) = as_within (path r ss) refl
    unfilled (neg e) = as_within (neg e) (ap neg (unfilled e))
    unfilled (no e) = as_within (no e) (ap no (unfilled e))
    unfilled (bin o a b) = as_within (bin o a b) (λ i. bin o (unfilled a i) (unfilled b i))
    unfilled (is w e) = as_within (is w e) (ap (is w) (unfilled e))
    unfilled (member e es) = as_within (member e es) (λ i. member (unfilled e i) (unfilled_exs es i))
    unfilled (between e a b) = as_within (between e a b) (λ i. between (unfilled e i) (unfilled a i) (unfilled b i))
    unfilled (matching h e s) = as_within (matching h e s) (ap (λ x. matching h x s) (unfilled e))
    unfilled (choice r e) = as_within (choice r e) (λ i. choice (unfilled_arms r i) (unfilled e i))
    unfilled (cast c e) = as_within (cast c e) (ap (cast c) (unfilled e))
    unfilled (call f es) = as_within (call f es) (ap (call f) (unfilled_exs es))
    unfilled (trunc p e) = as_within (trunc p e) (ap (trunc p) (unfilled e))
    unfilled (extract p e) = as_within (extract p e) (ap (extract p) (unfilled e))
    unfilled (shift p a e) = as_within (shift p a e) (λ i. shift p (unfilled a i) (unfilled e i))
    unfilled (agg_of_rows n) = as_within (agg_of_rows n) refl
    unfilled (agg n e) = as_within (agg n e) refl

    unfilled_exs : (es : Exs) → filled_exs t es ≡ es
    unfilled_exs no_exs = refl
    unfilled_exs (ex e es) = λ i. ex (unfilled e i) (unfilled_exs es i)

    unfilled_arms : (r : Arms) → filled_arms t r ≡ r
    unfilled_arms no_arms = refl
    unfilled_arms (arm a b r) = λ i. arm (unfilled a i) (unfilled b i) (unfilled_arms r i)
