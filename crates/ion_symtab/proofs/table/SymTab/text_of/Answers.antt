use Rattle.std.proofs.Common.{◌-◌, ℕ, List, map, Bor, slice_get, sym, ap, ◌∙◌}
use Rattle.std.specs.Option.{option_map}
use Rattle.block_meaning.specs.Tables.{Table}
use Rattle.block_meaning.proofs.Symbols.{text_of_below}
use Rattle.ion_symtab.proofs.Lookups.{text_of_get, text_got}
use Rattle.ion_symtab.proofs.table.SymTab.text_of.Goals as goal

abbrev text : Bor (List ℕ) → List ℕ
text s = s.now

pub returns-then-number-lt10 : goal.returns-then-number-lt10
returns-then-number-lt10 c = sym (text_of_below c.args.self.now c.args.number c.if-number-lt10.true)

pub returns : goal.returns
returns c =
    let got = text_got text c.deref.result.now (c.args.number - 10) c.get.result c.get.ensures.lookup.3 in
    let same = ap (map text) c.deref.ensures.value ∙ c.self.view_is in
    ap (option_map text) c.copied.ensures ∙ got ∙ ap (λ (t : Table). slice_get t (c.args.number - 10)) same ∙ sym (text_of_get c.args.self.now c.args.number c.if-number-lt10.false)
