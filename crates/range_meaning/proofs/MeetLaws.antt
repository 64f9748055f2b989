-- Meets, and the bounds of conjuncts one after the other.
use Rattle.std.proofs.Common.{◌≡◌, ℤ, List, [], ◌∷◌, ◌++◌, map, refl, sym, ap, ◌∙◌, arith}
use Rattle.std.specs.List.{fold}
use Rattle.std.specs.Int.{int_min, int_max}
use Rattle.std.proofs.lemmas.Int.{ints, clamps}
use Rattle.range_meaning.specs.declared.Bounds.{Bounds}
use Rattle.range_meaning.specs.declared.Bounds.TheVariants.{All, Between}
use Rattle.range_meaning.specs.Intervals.{meet}

max_assoc : (a b c : ℤ) → int_max (int_max a b) c ≡ int_max a (int_max b c)
max_assoc a b c = omega (arith, ints, clamps)

min_assoc : (a b c : ℤ) → int_min (int_min a b) c ≡ int_min a (int_min b c)
min_assoc a b c = omega (arith, ints, clamps)

pub meet_all : (b : Bounds) → meet b All ≡ b
meet_all All = refl
meet_all (Between l h) = refl

pub meet_assoc : (a b c : Bounds) → meet (meet a b) c ≡ meet a (meet b c)
meet_assoc All b c = refl
meet_assoc (Between l h) All c = refl
meet_assoc (Between l h) (Between m k) All = refl
meet_assoc (Between l h) (Between m k) (Between n j) = λ i. Between (max_assoc l m n i) (min_assoc h k j i)

fold_from : (b : Bounds) (bs : List Bounds) → fold meet b bs ≡ meet b (fold meet All bs)
fold_from b [] = sym (meet_all b)
fold_from b (c ∷ bs) = fold_from (meet b c) bs ∙ meet_assoc b c (fold meet All bs) ∙ ap (meet b) (sym (fold_from c bs))

-- the bounds of two lists, one after the other
module _ {X : Type 0} (f : X → Bounds) where
  from_both : (b : Bounds) (xs ys : List X) → fold meet b (map f (xs ++ ys)) ≡ meet (fold meet b (map f xs)) (fold meet All (map f ys))
  from_both b [] ys = fold_from b (map f ys)
  from_both b (x ∷ xs) ys = from_both (meet b (f x)) xs ys

  pub of_both : (xs ys : List X) → fold meet All (map f (xs ++ ys)) ≡ meet (fold meet All (map f xs)) (fold meet All (map f ys))
  of_both xs ys = from_both All xs ys
