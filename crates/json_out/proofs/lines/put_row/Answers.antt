use Rattle.std.proofs.Common.{◌≡◌, [], ◌∷◌, ◌++◌, ◌∙◌, ap}
use Rattle.answer_meaning.specs.Made.{pairs_of}
use Rattle.answer_meaning.specs.Lines.{line_text}
use Rattle.ion_cells.specs.Shown.{shown}
use Rattle.json_out.proofs.Rows.{row_text}
use Rattle.json_out.proofs.lines.put_row.Goals as goal

pub returns : goal.returns
returns c =
    let v = shown c.args.table.now c.args.row.now in
    let e : c.put_value.new.into ++ 10 ∷ [] ≡ c.args.into.now ++ line_text (pairs_of v) =
    ap (λ l. l ++ 10 ∷ []) c.in_ok-put_value.ensures ∙ row_text c.args.into.now v c.requires.is_struct in
    rw (← e) c.push_all.ensures.ok
