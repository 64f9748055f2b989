-- An index that is found is spelled.
use Rattle.std.proofs.Common.{◌≡◌, ℕ, List, Option, Some, None, IfOk, IfSome, Result, sym, ap, ◌∙◌, subst}
use Rattle.std.specs.Option.{option_map}
use Rattle.std.proofs.lemmas.Result.{IfOk-weaker}
use Rattle.file_meaning.specs.Files.{SpellsIndex}
use Rattle.file_meaning.specs.Reading.{AreBytes, index_in}
use Rattle.file_meaning.proofs.Believed.{index_spells}
use Rattle.time_index.specs.declared.index.Index.{Index}

found_spells : (to : ℕ) (bytes : List ℕ) → AreBytes bytes → (o : Option Index) → option_map (λ (i : Index). (i.field, i.entries)) o ≡ index_in to bytes → IfSome o (λ i. SpellsIndex bytes i.field i.entries to)
found_spells to bytes all None is = tt
found_spells to bytes all (Some i) is = index_spells to bytes i.field i.entries all (sym is)

pub spelled_in : {E : Type 0} (to : ℕ) (bytes : List ℕ) → AreBytes bytes → (r : Result (Option Index) E) → IfOk r (λ o. option_map (λ (i : Index). (i.field, i.entries)) o ≡ index_in to bytes) → IfOk r (λ o. IfSome o (λ i. SpellsIndex bytes i.field i.entries to))
spelled_in to bytes all r read =
    IfOk-weaker r (λ o. option_map (λ (i : Index). (i.field, i.entries)) o ≡ index_in to bytes) (λ o. IfSome o (λ i. SpellsIndex bytes i.field i.entries to)) (found_spells to bytes all) read

pub at_some : (to : ℕ) (bytes part : List ℕ) (o : Option Index) (i : Index) → o ≡ Some i → bytes ≡ part → IfSome o (λ x. SpellsIndex bytes x.field x.entries to) → SpellsIndex part i.field i.entries to
at_some to bytes part o i is same found =
    subst (λ (l : List ℕ). SpellsIndex l i.field i.entries to) same (subst (λ (q : Option Index). IfSome q (λ x. SpellsIndex bytes x.field x.entries to)) is found)

pub at_none : (to : ℕ) (bytes part : List ℕ) (o : Option Index) → o ≡ None → bytes ≡ part → option_map (λ (i : Index). (i.field, i.entries)) o ≡ index_in to bytes → index_in to part ≡ None
at_none to bytes part o is same read =
    ap (index_in to) (sym same) ∙ sym read ∙ ap (option_map (λ (i : Index). (i.field, i.entries))) is
