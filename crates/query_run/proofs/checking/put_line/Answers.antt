use Rattle.std.proofs.Common.{◌∙◌, sym, ap, List, take, drop, take-append-drop}
use Rattle.file_meaning.specs.Files.{Entry}
use Rattle.scan_meaning.specs.Checks.{check_line}
use Rattle.query_run.proofs.checking.put_line.Goals as goal

pub returns-clause-says : goal.returns-clause-says
returns-clause-says g c = λ file number o is none same.
    let bytes = c.as_bytes.result.now in
    let cut = c.in-Err-put.ensures.cut in
    let text = c.as_bytes.ensures.value ∙ c.in-Ok.ensures ∙ ap (λ (es : List Entry). check_line c.args.name.now es) (sym same) in
    (o, take cut.0 bytes, is, none, cut.1, (drop cut.0 bytes, sym text ∙ sym (take-append-drop cut.0 bytes)))
