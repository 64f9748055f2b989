use Rattle.std.proofs.Common.{◌≡◌, ℕ, ◌+◌, List, map, Some, Bor, subst, sym, ap, ◌∙◌}
use Rattle.block_meaning.specs.Tables.{Table, TextsRise, text_of}
use Rattle.ion_symtab.proofs.Lookups.{items_rise, number_found, number_absent}
use Rattle.ion_symtab.proofs.table.SymTab.number_of.Goals as goal

abbrev text : Bor (List ℕ) → List ℕ
text s = s.now

pub returns-in-Ok-clause-found : goal.returns-in-Ok-clause-found
returns-in-Ok-clause-found c =
    let found = number_found text c.deref.result.now c.args.text.now c.in-Ok.place c.in-Ok.ensures.ok c.in-Ok.ensures.bound in
    subst (λ (t : Table). text_of t (c.in-Ok.place + 10) ≡ Some c.args.text.now) (ap (map text) c.deref.ensures.value ∙ c.self.view_is) found

pub returns-in-Err-clause-absent : goal.returns-in-Err-clause-absent
returns-in-Err-clause-absent c n e =
    let same : map text c.deref.result.now ≡ c.args.self.now = ap (map text) c.deref.ensures.value ∙ c.self.view_is in
    let rise : TextsRise (map text c.deref.result.now) = subst (λ (xs : List (Bor (List ℕ))). TextsRise (map text xs)) (sym c.deref.ensures.value) c.self.invariant.0 in
    let parts = c.in-Err.ensures.position (items_rise text c.deref.result.now c.args.text.now rise) in
    number_absent text c.deref.result.now c.args.text.now c.in-Err.field-0 parts n (subst (λ (t : Table). text_of t n ≡ Some c.args.text.now) (sym same) e)
