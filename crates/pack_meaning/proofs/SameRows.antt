-- However rows are cut, their files hold the same rows.
use Rattle.std.proofs.Common.{◌≡◌, ℕ, List, Option, sym, ap, subst, ◌∙◌}
use Rattle.file_meaning.specs.Files.{Entry, IsFile, AreFileRows}
use Rattle.file_meaning.proofs.FileRows.{one_file_rows}
use Rattle.file_meaning.proofs.Believed.{inside}
use Rattle.file_meaning.proofs.Spelled.{file_reads}
use Rattle.pack_meaning.specs.Cuts.{Rows}
use Rattle.pack_meaning.specs.PackedFiles.{file_of, field_name, MayBePacked, HoldsRows}
use Rattle.pack_meaning.specs.Laws.{CutsHoldTheSame}
use Rattle.pack_meaning.proofs.Files.{files_hold}

same_entries : (bytes f : List ℕ) (es ds : List Entry) → IsFile bytes f es → IsFile bytes f ds → es ≡ ds
same_entries bytes f es ds first second =
    let x : List ℕ × List Entry = (f, es) in
    let y : List ℕ × List Entry = (f, ds) in
    ap (λ (p : List ℕ × List Entry). p.1) (inside x y (sym (file_reads bytes f es first) ∙ file_reads bytes f ds second))

pub same_rows : CutsHoldTheSame
same_rows tf most other rows found entries h k f are =
    let bytes = file_of tf other rows in
    let holds = files_hold tf other rows k in
    let same = same_entries bytes (field_name tf) entries holds.entries f holds.file in
    let mine : found ≡ rows = one_file_rows holds.entries bytes rows found holds.held (subst (λ es. AreFileRows es bytes found) same are) in
    subst (HoldsRows (field_name tf) (file_of tf most rows)) (sym mine) (files_hold tf most rows h)
