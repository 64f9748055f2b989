use Rattle.std.proofs.Common.{◌≡◌, ◌∙◌, refl, sym, subst, List, ℕ, Some, None}
use Rattle.std.specs.Prelude.{IsSomeAnd}
use Rattle.file_meaning.specs.Files.{IsFile}
use Rattle.scan_meaning.specs.Opened.{no_file, IsNamed}
use Rattle.query_run.specs.Checking.{SaysOfOne}
use Rattle.query_run.proofs.CheckedFiles.{nothing}
use Rattle.query_run.proofs.OneChecked.{same_name, not_a_file, is_no_file, is_there, found_file, none_is, some_is}
use Rattle.query_run.proofs.checking.check_file.Goals as goal

pub returns-in-Err-NotAFile-clause-says : goal.returns-in-Err-NotAFile-clause-says
returns-in-Err-NotAFile-clause-says g c = λ files is name at.
    let own = c.in-Some.name.now in
    let same = same_name c.args.names.now c.args.file own name (sym c.in-Some.ensures) at in
    let none = not_a_file _ own c.args.file _ _ c.in-Err-NotAFile.field-0-is c.in-Err-NotAFile.ensures.refused files is in
    (refl, subst (λ (m : List ℕ). IsNamed (files m) no_file) same (is_no_file (files own) none), nothing _)

pub returns-in-Ok-None-clause-says : goal.returns-in-Ok-None-clause-says
returns-in-Ok-None-clause-says g c = λ files is name at.
    let own = c.in-Some.name.now in
    let same = same_name c.args.names.now c.args.file own name (sym c.in-Some.ensures) at in
    let found = found_file files c.args.names.now c.args.file own c.in-Ok.index.field c.in-Ok.index.entries None c.in-Ok-None.field-0 (sym c.in-Some.ensures) (c.in-Ok.ensures.index files is) c.in-Ok-None.field-0-is
    (c.in-Ok-None.ensures.found files (c.index_of.ensures.told ∙ is)) in
    let says = c.put_line.ensures.says (files own) c.args.file found.o found.is (none_is _ found.number) (found.entries_are ∙ sym c.as_slice.ensures) in
    subst (λ (m : List ℕ). SaysOfOne (files m) m c.args.file c.put_line.result (g.O.Out.holds c.args.out.now) (g.O.Out.holds c.put_line.new.out)) same says

pub returns-in-Ok-Some-clause-says : goal.returns-in-Ok-Some-clause-says
returns-in-Ok-Some-clause-says g c = λ files is name at.
    let found = found_file files c.args.names.now c.args.file name c.in-Ok.index.field c.in-Ok.index.entries (Some c.in-Ok-Some.block) c.in-Ok-Some.field-0 at
    (subst (λ (m : List ℕ). IsSomeAnd (files m) (λ bytes. IsFile bytes c.in-Ok.index.field c.in-Ok.index.entries)) (same_name c.args.names.now c.args.file c.in-Some.name.now name (sym c.in-Some.ensures) at) (c.in-Ok.ensures.index files is)) c.in-Ok-Some.field-0-is
    (c.in-Ok-Some.ensures.found files (c.index_of.ensures.told ∙ is)) in
    let bad = some_is _ c.in-Ok-Some.block found.number in
    (found.o, bad.0, refl, found.is, bad.1, bad.2, nothing _)

pub returns-in-Err-ReadFault-first_bad-clause-says :
    goal.returns-in-Err-ReadFault-first_bad-clause-says
returns-in-Err-ReadFault-first_bad-clause-says g c = λ files is name at.
    let own = c.in-Some.name.now in
    let same = same_name c.args.names.now c.args.file own name (sym c.in-Some.ensures) at in
    (subst (λ (m : List ℕ). files m ≡ None → ⊥) same (is_there (files own) _ (c.in-Ok.ensures.index files is)), nothing _)
