-- The pair of a value that isn't MISSING.
use Rattle.std.proofs.Common.{◌≡◌, ℕ, List, [], ◌∷◌, refl}
use Rattle.snel_values.specs.declared.value.Value.{Value}
use Rattle.snel_values.specs.declared.value.Value.TheVariants as of
use Rattle.snel_values.specs.View.{view}
use Rattle.answer_meaning.specs.Lines.{value_text}
use Rattle.json_out.specs.Begun.{pair_text, pair_if_any, pair_text_if_any}

module _ (name : List ℕ) where
  pub some_pair : (x : Value) → (x ≡ of.Missing → ⊥) → pair_if_any name (view x) ≡ (name, view x) ∷ []
  some_pair of.Missing h = absurd (h refl)
  some_pair x h = refl

  pub some_pair_text : (line : List ℕ) (x : Value) → (x ≡ of.Missing → ⊥) → pair_text_if_any line name (view x) ≡ pair_text line name (value_text (view x))
  some_pair_text line of.Missing h = absurd (h refl)
  some_pair_text line x h = refl
