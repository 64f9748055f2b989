-- What an order key stands for.
use Rattle.std.proofs.Common.{◌≡◌, ℕ, zero, suc, ◌-◌, ℤ, pos, negsuc, true, false, List, [], ◌∷◌, length, map, Some, None, refl, sym, ◌∙◌, ap, arith}
use Rattle.std.specs.Prelude.{slice_get}
use Rattle.std.proofs.lemmas.Bool.Decides.{nat_tests}
use lib.Signed.{lt_z}
use lib.IntN.{nat_abs}
use Rattle.tree_meaning.specs.Tree.{path, Outs}
use Rattle.snel_values.specs.declared.steps.Step.{Step}
use Rattle.snel_values.specs.declared.steps.Step.TheVariants as step
use Rattle.query_tree.specs.View.{step_view}
use Rattle.check_meaning.specs.Names.{last_name}
use Rattle.check_meaning.specs.Places.{as_name, output_at, output_exs}
use Rattle.query_walk.proofs.Listed.{some_is}

pub only_step : (row : ℕ) (ss : List Step) (s : Step) → row ≡ 0 → length ss ≡ 1 → slice_get ss 0 ≡ Some s → last_name (step_view s ∷ []) ≡ as_name (path row (map step_view ss))
only_step row [] s e l h = cc
only_step row (t ∷ []) s e l h = rw (e, ← some_is t s h) (one t)
  where
    one : (t : Step) → last_name (step_view t ∷ []) ≡ as_name (path 0 (step_view t ∷ []))
    one (step.Name n) = refl
    one (step.At i) = refl
only_step row (t ∷ u ∷ ss) s e l h = absurd (omega (arith, l))

below : (outs : Outs) (z : ℤ) → lt_z z (pos 1) ≡ true → None ≡ output_at outs z
unfolding output_at
below outs (pos zero) h = refl
below outs (pos (suc k)) h = absurd (grind (arith, nat_tests))
below outs (negsuc k) h = refl

above : (outs : Outs) (z : ℤ) (n : ℕ) → lt_z z (pos 1) ≡ false → n ≡ nat_abs z → slice_get (output_exs outs) (n - 1) ≡ output_at outs z
unfolding output_at
above outs (pos zero) n h is = cc
above outs (pos (suc k)) n h is = ap (slice_get (output_exs outs)) (omega (arith, is))
above outs (negsuc k) n h is = cc

pub no_output : (outs : Outs) (z b : ℤ) → b ≡ z → lt_z b (pos 1) ≡ true → None ≡ output_at outs z
no_output outs z b e h = below outs z (ap (λ y. lt_z y (pos 1)) (sym e) ∙ h)

pub some_output : (outs : Outs) (z b : ℤ) (n : ℕ) → b ≡ z → lt_z b (pos 1) ≡ false → n ≡ nat_abs b → slice_get (output_exs outs) (n - 1) ≡ output_at outs z
some_output outs z b n e h is = above outs z n (ap (λ y. lt_z y (pos 1)) (sym e) ∙ h) (is ∙ ap nat_abs e)
