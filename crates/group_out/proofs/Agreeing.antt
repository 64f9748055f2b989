-- An expression with the values that are known of its parts depends on what is known of its parts alone.
use Rattle.std.proofs.Common.{◌≡◌, List, ◌++◌, Option, refl}
use Rattle.value_meaning.specs.Val.{Val}
use Rattle.tree_meaning.specs.Tree.{Ex, Exs, Arms, lit, path, neg, no, bin, is, member, between, matching, choice, cast, call, trunc, extract, shift, agg_of_rows, agg, no_exs, ex, no_arms, arm}
use Rattle.check_meaning.specs.Parts.{parts, parts_outside, within, exs_within, arms_within, none}
use Rattle.group_out.proofs.Each.{Each, both_hold}
use Rattle.made_meaning.specs.OverGroups.{lit_or, filled, filled_exs, filled_arms}

module _ (t u : Ex → Option Val) where
  abbrev pub Agree : List Ex → Type 0
  Agree es = Each (λ e. t e ≡ u e) es

  split : (xs ys : List Ex) → Agree (xs ++ ys) → Agree xs × Agree ys
  split xs ys h = both_hold (λ e. t e ≡ u e) xs ys h

  mutual
    unfolding filled filled_exs filled_arms parts_outside within exs_within arms_within

    pub same_filled : (e : Ex) → Agree (parts e) → filled t e ≡ filled u e
    same_filled (lit v) h = λ i. lit_or (h.0 i) (lit v)
    same_filled (path r ss) h = λ i. lit_or (h.0 i) (path r ss)
    same_filled (neg e) h = λ i. lit_or (h.0 i) (neg (same_filled e h.1 i))
    same_filled (no e) h = λ i. lit_or (h.0 i) (no (same_filled e h.1 i))
    same_filled (bin o a b) h =
        let s = split (parts a) (parts b) h.1 in λ i. lit_or (h.0 i) (bin o (same_filled a s.0 i) (same_filled b s.1 i))
    same_filled (is w e) h = λ i. lit_or (h.0 i) (is w (same_filled e h.1 i))
    same_filled (member e es) h =
        let s = split (parts e) (exs_within none es) h.1 in λ i. lit_or (h.0 i) (member (same_filled e s.0 i) (same_exs es s.1 i))
    same_filled (between e a b) h =
        let s = split (parts e ++ parts a) (parts b) h.1 in
        let r = split (parts e) (parts a) s.0 in
        λ i. lit_or (h.0 i) (between (same_filled e r.0 i) (same_filled a r.1 i) (same_filled b s.1 i))
    same_filled (matching w e s) h = λ i. lit_or (h.0 i) (matching w (same_filled e h.1 i) s)
    same_filled (choice r e) h =
        let s = split (arms_within none r) (parts e) h.1 in λ i. lit_or (h.0 i) (choice (same_arms r s.0 i) (same_filled e s.1 i))
    same_filled (cast c e) h = λ i. lit_or (h.0 i) (cast c (same_filled e h.1 i))
    same_filled (call f es) h = λ i. lit_or (h.0 i) (call f (same_exs es h.1 i))
    same_filled (trunc p e) h = λ i. lit_or (h.0 i) (trunc p (same_filled e h.1 i))
    same_filled (extract p e) h = λ i. lit_or (h.0 i) (extract p (same_filled e h.1 i))
    same_filled (shift p a e) h =
        let s = split (parts a) (parts e) h.1 in λ i. lit_or (h.0 i) (shift p (same_filled a s.0 i) (same_filled e s.1 i))
    same_filled (agg_of_rows n) h = λ i. lit_or (h.0 i) (agg_of_rows n)
    same_filled (agg n e) h = λ i. lit_or (h.0 i) (agg n e)

    same_exs : (es : Exs) → Agree (exs_within none es) → filled_exs t es ≡ filled_exs u es
    same_exs no_exs h = refl
    same_exs (ex e es) h = let s = split (parts e) (exs_within none es) h in λ i. ex (same_filled e s.0 i) (same_exs es s.1 i)

    same_arms : (r : Arms) → Agree (arms_within none r) → filled_arms t r ≡ filled_arms u r
    same_arms no_arms h = refl
    same_arms (arm a b r) h =
        let s = split (parts a ++ parts b) (arms_within none r) h in
        let m = split (parts a) (parts b) s.0 in
        λ i. arm (same_filled a m.0 i) (same_filled b m.1 i) (same_arms r s.1 i)
