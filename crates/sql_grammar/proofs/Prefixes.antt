-- A mark any number of times before a form, once the marks are counted.
use Rattle.std.proofs.Common.{◌≡◌, ℕ, Some, None, refl, ◌∙◌}
use Rattle.tree_meaning.specs.Tree.{Ex}
use Rattle.query_meaning.specs.declared.Mark.{Mark}
use Rattle.query_meaning.specs.Tokens.{Toks}
use Rattle.query_meaning.specs.Reading.{Reader, behind, count_of, prefixed, times}
use Rattle.query_meaning.proofs.Steps.{prefixed-times}

module _ (k : Mark) (wrap : Ex → Ex) (f : Reader Ex) (ts rest : Toks) (here : rest ≡ behind k ts) where
  pub prefixed_none : f rest ≡ None → prefixed k wrap f ts ≡ None
  prefixed_none e = prefixed-times k wrap f ts ∙ (rw (← here, e) refl)

  pub prefixed_some : (n : ℕ) (e : Ex) (r : Toks) → n ≡ count_of k ts → f rest ≡ Some (e, r) → prefixed k wrap f ts ≡ Some (times wrap n e, r)
  prefixed_some n e r c g = prefixed-times k wrap f ts ∙ (rw (← here, ← c, g) refl)
