use Rattle.std.proofs.Common.{◌≡◌, ℕ, List, map, Err, Bor, ap, arith}
use Rattle.std.proofs.lemmas.List.{length-map}
use Rattle.ion_symtab.specs.declared.fault.TabFault.TheVariants as TabFault
use Rattle.ion_symtab.proofs.TableRead.{read_tail, no_tail}
use Rattle.ion_symtab.proofs.reading.read.Goals as goal

abbrev text : Bor (List ℕ) → List ℕ
text s = s.now

pub overflow_sub-end : goal.overflow_sub-end
overflow_sub-end c = (read_tail (map text c.in-Ok.texts.items) c.args.bytes.now c.in-Ok.rest.now c.args.at c.requires.within c.in-Ok.ensures.reads).within

pub of_texts-requires-clause-rise : goal.of_texts-requires-clause-rise
of_texts-requires-clause-rise c = (read_tail (map text c.in-Ok.texts.items) c.args.bytes.now c.in-Ok.rest.now c.args.at c.requires.within c.in-Ok.ensures.reads).rise

pub of_texts-requires-clause-few : goal.of_texts-requires-clause-few
of_texts-requires-clause-few c =
    let r = read_tail (map text c.in-Ok.texts.items) c.args.bytes.now c.in-Ok.rest.now c.args.at c.requires.within c.in-Ok.ensures.reads in
    omega (arith, r.few, length-map c.in-Ok.texts.items text, c.requires.short)

pub returns-in-Ok-clause-reads : goal.returns-in-Ok-clause-reads
returns-in-Ok-clause-reads c =
    let r = read_tail (map text c.in-Ok.texts.items) c.args.bytes.now c.in-Ok.rest.now c.args.at c.requires.within c.in-Ok.ensures.reads in
    rw (c.of_texts.ensures) r.reads

pub returns-in-Ok-clause-stands : goal.returns-in-Ok-clause-stands
returns-in-Ok-clause-stands c =
    let r = read_tail (map text c.in-Ok.texts.items) c.args.bytes.now c.in-Ok.rest.now c.args.at c.requires.within c.in-Ok.ensures.reads in
    rw (c.of_texts.ensures) r.stands

pub returns-in-Ok-clause-within : goal.returns-in-Ok-clause-within
returns-in-Ok-clause-within c =
    let r = read_tail (map text c.in-Ok.texts.items) c.args.bytes.now c.in-Ok.rest.now c.args.at c.requires.within c.in-Ok.ensures.reads in
    (r.behind, omega arith)

pub returns-in-Err-clause-bad : goal.returns-in-Err-clause-bad
returns-in-Err-clause-bad c e =
    let same : c.in-Err.fault ≡ TabFault.BadTable = cc in
    no_tail c.args.bytes.now c.args.at (c.in-Err.ensures.bad (ap Err same))
