use Rattle.std.proofs.Common.{ℕ, List, sym, ap, ◌∙◌}
use Rattle.file_meaning.specs.Files.{Entry}
use Rattle.file_meaning.proofs.Believed.{inside}
use Rattle.file_meaning.proofs.Spelled.{file_reads}
use Rattle.file_meaning.proofs.one_index.Goals as goal

pub returns : goal.returns
returns c = λ bytes f g es ds first second.
    let x : List ℕ × List Entry = (f, es) in
    let y : List ℕ × List Entry = (g, ds) in
    let same = inside x y (sym (file_reads bytes f es first) ∙ file_reads bytes g ds second) in
    (ap (λ (p : List ℕ × List Entry). p.0) same, ap (λ (p : List ℕ × List Entry). p.1) same)
