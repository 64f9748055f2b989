use Rattle.std.proofs.Common.{◌≡◌, ℕ, ◌+◌, List, map, Some, Bor, subst, sym, ap, ◌∙◌}
use Rattle.block_meaning.specs.Tables.{Table, TextsRise, text_of}
use Rattle.write_meaning.proofs.Numbering as numbering
use Rattle.ion_write.proofs.Lookups.{items_rise, number_found, number_absent}
use Rattle.ion_write.proofs.table.Table.number_of.Goals as goal

abbrev text : Bor (List ℕ) → List ℕ
text s = s.now

pub returns-in-Ok : goal.returns-in-Ok
returns-in-Ok c =
    let found = number_found text c.deref.result.now c.args.text.now c.in-Ok.place c.in-Ok.ensures.ok c.in-Ok.ensures.bound in
    let there = subst (λ (t : Table). text_of t (c.in-Ok.place + 10) ≡ Some c.args.text.now) (ap (map text) c.deref.ensures.value ∙ c.self.view_is) found in
    sym (numbering.number_found c.args.self.now c.args.text.now (c.in-Ok.place + 10) (subst TextsRise c.self.view_is c.self.invariant) there)

pub returns-in-Err : goal.returns-in-Err
returns-in-Err c =
    let same : map text c.deref.result.now ≡ c.args.self.now = ap (map text) c.deref.ensures.value ∙ c.self.view_is in
    let rise : TextsRise (map text c.deref.result.now) = subst (λ (xs : List (Bor (List ℕ))). TextsRise (map text xs)) (sym c.deref.ensures.value) c.self.invariant in
    let parts = c.in-Err.ensures.position (items_rise text c.deref.result.now c.args.text.now rise) in
    sym (numbering.number_absent c.args.self.now c.args.text.now (λ n e. number_absent text c.deref.result.now c.args.text.now c.in-Err.field-0 parts n (subst (λ (t : Table). text_of t n ≡ Some c.args.text.now) (sym same) e)))
