-- Steps that are one name.
use Rattle.std.proofs.Common.{◌≡◌, ◌≢◌, ℕ, false, List, [], ◌∷◌, length, Some, None, refl, ap, arith}
use Rattle.std.specs.Prelude.{map, slice_get}
use Rattle.std.specs.Str.{bytes_eq}
use Rattle.snel_values.specs.declared.steps.Step.{Step}
use Rattle.snel_values.specs.declared.steps.Step.TheVariants as step
use Rattle.query_tree.specs.View.{step_view}
use Rattle.range_meaning.specs.Binding.{is_name}

pub one_name : (field n : List ℕ) (steps : List Step) → Some (step.Name n) ≡ slice_get steps 0 → length steps ≡ 1 → bytes_eq n field ≡ is_name field (map step_view steps)
one_name field n (step.Name m ∷ []) h k = let same : n ≡ m = cc in ap (λ (s : List ℕ). bytes_eq s field) same
one_name field n (step.At i ∷ []) h k = cc
one_name field n [] h k = cc
one_name field n (s ∷ t ∷ more) h k = absurd (omega arith)

pub other_length : (field : List ℕ) (steps : List Step) → length steps ≢ 1 → false ≡ is_name field (map step_view steps)
other_length field [] h = refl
other_length field (step.Name m ∷ []) h = absurd (h refl)
other_length field (step.At i ∷ []) h = refl
other_length field (step.Name m ∷ t ∷ more) h = refl
other_length field (step.At i ∷ t ∷ more) h = refl

pub no_name : (field : List ℕ) (i : ℕ) (steps : List Step) → Some (step.At i) ≡ slice_get steps 0 → false ≡ is_name field (map step_view steps)
no_name field i (step.Name m ∷ more) h = cc
no_name field i (step.At j ∷ []) h = refl
no_name field i (step.At j ∷ t ∷ more) h = refl
no_name field i [] h = cc

pub no_step : (field : List ℕ) (steps : List Step) → None ≡ slice_get steps 0 → false ≡ is_name field (map step_view steps)
no_step field [] h = refl
no_step field (s ∷ more) h = cc
