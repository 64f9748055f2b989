-- Elements of a list with their numbers.
use Rattle.std.proofs.Common.{◌≡◌, ℕ, zero, suc, ◌+◌, List, [], ◌∷◌, length, map, Some, refl, ◌∙◌, ap, arith}
use Rattle.std.specs.Prelude.{slice_get}
use Rattle.std.specs.List.{enumerate_from}
use Rattle.std.proofs.lemmas.List.{length-map}
use Rattle.snel_values.specs.declared.steps.Step.{Step}
use Rattle.snel_values.specs.declared.steps.Step.TheVariants as step
use Rattle.query_tree.specs.View.{step_view}
use Rattle.check_meaning.specs.Names.{last_name}
use Rattle.query_walk.proofs.Listed.{some_is}

module _ {A : Type 0} where
  pub numbered_at : (xs : List A) (n k : ℕ) (x : A) → slice_get xs k ≡ Some x → slice_get (enumerate_from n xs) k ≡ Some (n + k, x)
  numbered_at [] n k x h = cc
  numbered_at (y ∷ xs) n zero x h = λ i. Some (zero_more n i, some_is y x h i)
    where
      zero_more : (m : ℕ) → m ≡ m + 0
      zero_more m = omega arith
  numbered_at (y ∷ xs) n (suc k) x h = numbered_at xs (n + 1) k x h ∙ ap (λ m. Some (m, x)) (omega arith)

  pub length_numbered : (xs : List A) (n : ℕ) → length (enumerate_from n xs) ≡ length xs
  length_numbered [] n = refl
  length_numbered (x ∷ xs) n = ap suc (length_numbered xs (n + 1))

pub length_mapped : {A B : Type 0} (f : ℕ × A → B) (xs : List A) → length (map f (enumerate_from 1 xs)) ≡ length xs
length_mapped f xs = length-map (enumerate_from 1 xs) f ∙ length_numbered xs 1

-- the last step of a path
pub last_step : (ss : List Step) (k : ℕ) (s : Step) → suc k ≡ length ss → slice_get ss k ≡ Some s → last_name (map step_view ss) ≡ last_name (step_view s ∷ [])
last_step [] k s e h = cc
last_step (t ∷ []) zero s e h = ap (λ x. last_name (step_view x ∷ [])) (some_is t s h)
last_step (t ∷ []) (suc k) s e h = cc
last_step (t ∷ u ∷ ss) zero s e h = absurd (omega (arith, e))
last_step (t ∷ u ∷ ss) (suc k) s e h = between_is t u ss ∙ last_step (u ∷ ss) k s (omega (arith, e)) h
  where
    between_is : (t u : Step) (ss : List Step) → last_name (map step_view (t ∷ u ∷ ss)) ≡ last_name (map step_view (u ∷ ss))
    between_is (step.Name n) u ss = refl
    between_is (step.At i) u ss = refl
