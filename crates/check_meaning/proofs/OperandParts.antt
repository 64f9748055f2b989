-- The parts of an expression by the expressions that stand directly in it.
use Rattle.std.proofs.Common.{◌≡◌, ℕ, zero, suc, max, ◌≤◌, ◌<◌, Bool, List, [], ◌∷◌, ◌++◌, Some, refl, ◌∙◌, ap, arith, append_assoc}
use Rattle.std.specs.Prelude.{slice_get, unwrap_or}
use Rattle.std.specs.List.{flat_map}
use Rattle.tree_meaning.specs.Tree.{Ex, Exs, Arms, lit, path, neg, no, bin, is, member, between, matching, choice, cast, call, trunc, extract, shift, agg_of_rows, agg, no_exs, ex, no_arms, arm, items, size, exs_size, arms_size}
use Rattle.check_meaning.specs.Operands.{operands, arm_operands}
use Rattle.check_meaning.specs.Parts.{unless, within, exs_within, arms_within, parts_outside}

module _ (t : Ex → Bool) where
  ends : (xs : List Ex) → xs ≡ xs ++ []
  ends [] = refl
  ends (x ∷ xs) = ap (λ l. x ∷ l) (ends xs)

  exs_parts : (es : Exs) → exs_within t es ≡ flat_map (parts_outside t) (items es)
  unfolding exs_within parts_outside
  exs_parts no_exs = refl
  exs_parts (ex e es) = ap (λ l. unless t e (within t e) ++ l) (exs_parts es)

  arms_parts : (r : Arms) (es : List Ex) → arms_within t r ++ flat_map (parts_outside t) es ≡ flat_map (parts_outside t) (arm_operands r ++ es)
  unfolding arms_within parts_outside
  arms_parts no_arms es = refl
  arms_parts (arm a b r) es = rw (append_assoc, append_assoc) (ap (λ l. unless t a (within t a) ++ (unless t b (within t b) ++ l)) (arms_parts r es))

  pub within_is : (e : Ex) → within t e ≡ flat_map (parts_outside t) (operands e)
  unfolding within parts_outside
  within_is (lit v) = refl
  within_is (path r ss) = refl
  within_is (neg e) = ends _
  within_is (no e) = ends _
  within_is (bin o a b) = ap (λ l. unless t a (within t a) ++ l) (ends _)
  within_is (is w e) = ends _
  within_is (member e es) = ap (λ l. unless t e (within t e) ++ l) (exs_parts es)
  within_is (between e a b) = append_assoc (unless t e (within t e)) (unless t a (within t a)) (parts_outside t b) ∙ ap (λ l. unless t e (within t e) ++ (unless t a (within t a) ++ l)) (ends _)
  within_is (matching h e s) = ends _
  within_is (choice r e) = ap (λ l. arms_within t r ++ l) (ends _) ∙ arms_parts r (e ∷ [])
  within_is (cast c e) = ends _
  within_is (call f es) = exs_parts es
  within_is (trunc p e) = ends _
  within_is (extract p e) = ends _
  within_is (shift p a e) = ap (λ l. unless t a (within t a) ++ l) (ends _)
  within_is (agg_of_rows n) = refl
  within_is (agg n e) = ends _

  pub parts_are : (e : Ex) → parts_outside t e ≡ unless t e (flat_map (parts_outside t) (operands e))
  unfolding parts_outside
  parts_are e = ap (unless t e) (within_is e)

-- one more than the size of the largest
abbrev largest : List Ex → ℕ
largest [] = 0
largest (e ∷ es) = max (suc (size e)) (largest es)

some_is : (a b : Ex) → Some a ≡ Some b → a ≡ b
some_is a b h = ap (λ o. unwrap_or o a) h

item_falls : (es : List Ex) (i : ℕ) (x : Ex) → slice_get es i ≡ Some x → size x < largest es
item_falls [] i x h = cc
item_falls (e ∷ es) zero x h = let k : size e ≡ size x = ap size (some_is e x h) in omega (arith, k)
item_falls (e ∷ es) (suc i) x h = omega (arith, item_falls es i x h)

largest_exs : (es : Exs) → largest (items es) ≤ exs_size es
largest_exs no_exs = omega arith
largest_exs (ex e es) = omega (arith, largest_exs es)

largest_arms : (r : Arms) (es : List Ex) → largest (arm_operands r ++ es) ≤ max (arms_size r) (largest es)
largest_arms no_arms es = omega arith
largest_arms (arm a b r) es = omega (arith, largest_arms r es)

largest_falls : (e : Ex) → largest (operands e) ≤ size e
largest_falls (lit v) = omega arith
largest_falls (path r ss) = omega arith
largest_falls (neg e) = omega arith
largest_falls (no e) = omega arith
largest_falls (bin o a b) = omega arith
largest_falls (is w e) = omega arith
largest_falls (member e es) = omega (arith, largest_exs es)
largest_falls (between e a b) = omega arith
largest_falls (matching h e s) = omega arith
largest_falls (choice r e) = omega (arith, largest_arms r (e ∷ []))
largest_falls (cast c e) = omega arith
largest_falls (call f es) = omega (arith, largest_exs es)
largest_falls (trunc p e) = omega arith
largest_falls (extract p e) = omega arith
largest_falls (shift p a e) = omega arith
largest_falls (agg_of_rows n) = omega arith
largest_falls (agg n e) = omega arith

-- what stands in an expression is smaller
pub operand_falls : (e : Ex) (i : ℕ) (x : Ex) → slice_get (operands e) i ≡ Some x → size x < size e
operand_falls e i x h = omega (arith, item_falls (operands e) i x h, largest_falls e)
